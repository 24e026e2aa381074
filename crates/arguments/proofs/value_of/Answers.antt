-- The invariant: the number so far, with the digits that are left, is the whole's. Assumes nothing.
use Rattle.arguments.proofs.Laws.{value_empty, value_some, value_broken, value_more, value_end}
use native.Mathlib.Omega.{arith}
use Rattle.arguments.proofs.value_of.Goals as goal

pub returns-then-s-eq0 : goal.returns-then-s-eq0
returns-then-s-eq0 c = search value_empty

pub loop-b-init : goal.loop-b-init
loop-b-init c = (omega arith, search value_some)

pub returns-then-not-is_digit : goal.returns-then-not-is_digit
returns-then-not-is_digit c = search value_broken

pub loop-b-preserved : goal.loop-b-preserved
loop-b-preserved c = (omega (arith, c.with_digit-v.ensures), search value_more)

pub returns : goal.returns
returns c = search value_end
