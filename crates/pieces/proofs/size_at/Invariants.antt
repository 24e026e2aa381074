-- The invariant: the elements so far, with how many more the rest says, are the piece. Assumes nothing.
use Prim.Native.Nat.{◌+◌}
use mathlib.Core.Path.{◌≡◌}
use lib.ListN.{drop}
use Rattle.pieces.specs.Cutting.{more, piece_size}
use Rattle.pieces.specs.Kinds.{closes_piece, opens_piece}
use Rattle.places.specs.Places.{kinds_of}
use Rattle.pieces.proofs.size_at.Given as goal

abbrev pub invariant-loop-m : goal.invariant-loop-m
invariant-loop-m l = l.m + more closes_piece opens_piece l.closed (drop (l.first.0 + l.m) (kinds_of l.n l.elements)) ≡ piece_size closes_piece opens_piece (drop l.first.0 (kinds_of l.n l.elements))
