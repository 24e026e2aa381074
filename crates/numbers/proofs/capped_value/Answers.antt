-- The invariant: the value, with the rest of the digits after it, is the value of the whole, each capped. Assumes nothing.
use borrow.Author.Rules.{rules}
use Rattle.numbers.proofs.Spelled.{value_turn, value_end}
use native.Mathlib.Omega.{arith}
use mathlib.Core.Path.{refl}
use Rattle.numbers.proofs.capped_value.Goals as goal

pub loop-b-init : goal.loop-b-init
loop-b-init c = (omega arith, refl)

pub loop-b-preserved : goal.loop-b-preserved
loop-b-preserved c = (omega (arith, c.with_digit-v.ensures), search (value_turn, rules))

pub returns : goal.returns
returns c = search (value_end, rules)
