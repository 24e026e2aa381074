-- The invariant: the pieces so far and those of the rest are all. Assumes nothing.
use Prim.Native.Nat.{◌-◌, ◌≤◌, ◌+◌}
use mathlib.Core.Path.{◌≡◌}
use lib.ListN.{length, drop}
use Rattle.pieces.specs.Kinds.{kind_pieces}
use Rattle.places.specs.Places.{kinds_of}
use Rattle.pieces.proofs.count_pieces.Given as goal

abbrev pub invariant-loop-at : goal.invariant-loop-at
invariant-loop-at l = (l.at ≤ l.n) × ((l.c ≤ l.at) × (l.c + length (kind_pieces (drop l.at (kinds_of l.n l.elements))) ≡ length (kind_pieces (kinds_of l.n l.elements))))

abbrev pub decreases-loop-at : goal.decreases-loop-at
decreases-loop-at l = l.n - l.at
