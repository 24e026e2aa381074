-- The loop goes down, and no further than the last node. Assumes nothing.
use Prim.Native.Nat.{◌-◌}
use Rattle.different_names.proofs.sift.Given as goal

abbrev pub invariant-loop-at : goal.invariant-loop-at
invariant-loop-at l = Unit

abbrev pub decreases-loop-at : goal.decreases-loop-at
decreases-loop-at l = l.n - l.at
