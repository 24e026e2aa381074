-- The loop: whether the names that are left are all different. Assumes nothing.
use mathlib.Core.Path.{◌≡◌}
use Prim.Native.Nat.{◌-◌}
use Rattle.stored.specs.Stored.{distinct}
use Rattle.different_names.specs.StandingNames.{name_at, names_from}
use Rattle.different_names.proofs.each_with_each.Given as goal

abbrev pub invariant-loop-k : goal.invariant-loop-k
invariant-loop-k l = distinct (names_from (name_at l.s l.firsts l.sizes) l.k (l.n - l.k)) ≡ distinct (names_from (name_at l.s l.firsts l.sizes) 0 l.n)
