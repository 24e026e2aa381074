-- The four ways that `digit_value` goes. Assumes nothing.
use native.Mathlib.Omega.{arith}
use Rattle.classes.proofs.Laws.{within_low, digit_low, digit_first, digit_upper, digit_lower, digit_none}
use Rattle.classes.proofs.digit_value.Goals as goal

pub overflow_sub-result : goal.overflow_sub-result
overflow_sub-result c = search digit_low

pub returns-then-is_digit : goal.returns-then-is_digit
returns-then-is_digit c = search digit_first

pub overflow_sub-result-then-b : goal.overflow_sub-result-then-b
overflow_sub-result-then-b c = omega (arith, within_low 65 70 c.args.b c.if-b.true)

pub returns-then-b : goal.returns-then-b
returns-then-b c = search digit_upper

pub overflow_sub-result-then-b-2 : goal.overflow_sub-result-then-b-2
overflow_sub-result-then-b-2 c = omega (arith, within_low 97 102 c.args.b c.if-b-2.true)

pub returns-then-b-2 : goal.returns-then-b-2
returns-then-b-2 c = search digit_lower

pub returns : goal.returns
returns c = search digit_none
