-- The two ways that a point goes. Assumes nothing.
use Prim.Native.Nat.{◌+◌}
use Rattle.numbers.proofs.Laws.{pointed_none, pointed_whole, fraction_fits}
use native.Mathlib.Omega.{arith}
use Rattle.numbers.proofs.pointed_at.Goals as goal

pub returns-then-not-is_digit : goal.returns-then-not-is_digit
returns-then-not-is_digit c = search pointed_none

pub overflow_add-result : goal.overflow_add-result
overflow_add-result c = omega (arith, fraction_fits c.args.s.now (c.args.n + 1) c.fraction_length.result (omega arith) c.fraction_length.ensures)

pub returns : goal.returns
returns c = search pointed_whole
