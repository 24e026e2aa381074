-- The invariant: what the pieces left say is what all of them say. Assumes nothing.
use Prim.Native.Nat.{◌-◌, ◌≤◌}
use mathlib.Core.Path.{◌≡◌}
use lib.ListN.{drop}
use Rattle.pieces.specs.Kinds.{kind_pieces}
use Rattle.places.specs.Places.{kinds_of}
use Rattle.pieces.specs.Frames.{framed_from}
use Rattle.pieces.proofs.frame_from.Given as goal

abbrev pub invariant-loop-at : goal.invariant-loop-at
invariant-loop-at l = (l.at ≤ l.n) × (framed_from l.heading.0 l.at (kind_pieces (drop l.at (kinds_of l.n l.elements))) ≡ framed_from l.heading.0 l.initial.at (kind_pieces (drop l.initial.at (kinds_of l.n l.elements))))

abbrev pub decreases-loop-at : goal.decreases-loop-at
decreases-loop-at l = l.n - l.at
