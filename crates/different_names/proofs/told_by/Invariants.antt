-- The loop: each name passed is above those before it. Assumes nothing.
use Prim.Native.Nat.{◌<◌}
use Rattle.different_names.specs.StandingNames.{name_at}
use Rattle.different_names.proofs.Counting.{Climbs}
use Rattle.different_names.proofs.told_by.Given as goal

abbrev pub invariant-loop-i : goal.invariant-loop-i
invariant-loop-i l = (l.last < l.n) × Climbs (name_at l.s l.firsts l.sizes) l.n l.last l.i
