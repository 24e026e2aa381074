-- The four ways that a base goes. Assumes nothing.
use lib.ListN.{length}
use Prim.Native.Nat.{◌+◌, ◌≤◌}
use Rattle.numbers.proofs.Laws.{part_front, base_small, base_large, based_whole, based_none, based_fits}
use native.Mathlib.Omega.{arith}
use Rattle.numbers.proofs.based_at.Goals as goal

pub slice_bounds-small_value-end : goal.slice_bounds-small_value-end
slice_bounds-small_value-end c = part_front _ _ c.requires.1

pub returns-then-base-lt-LEAST_BASE : goal.returns-then-base-lt-LEAST_BASE
returns-then-base-lt-LEAST_BASE c = search base_small

pub returns-then-base-gt-GREATEST_BASE : goal.returns-then-base-gt-GREATEST_BASE
returns-then-base-gt-GREATEST_BASE c = search base_large

pub overflow_add-result : goal.overflow_add-result
overflow_add-result c = let h : c.args.n + 1 + c.in-Some.k ≤ length c.args.s.now = search based_fits in omega arith

pub returns-in-Some : goal.returns-in-Some
returns-in-Some c = search based_whole

pub returns-in-None : goal.returns-in-None
returns-in-None c = search based_none
