-- The invariant: the words of the pieces so far stand, and zeros after them. Assumes nothing.
use Prim.Native.Nat.{◌≤◌, ◌-◌}
use mathlib.Core.Path.{◌≡◌}
use lib.ListN.{length}
use Rattle.tree.proofs.Written.{Written}
use Rattle.tree.proofs.read_pieces.Given as goal

abbrev pub invariant-loop-at : goal.invariant-loop-at
invariant-loop-at l = (l.at ≤ l.n)
    × (length l.rows ≡ length l.initial.rows)
    × Written l.n l.elements l.rows (length l.initial.rows) l.at

abbrev pub decreases-loop-at : goal.decreases-loop-at
decreases-loop-at l = l.n - l.at
