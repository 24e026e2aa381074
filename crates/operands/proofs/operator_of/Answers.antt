-- A kind that is tested for computes; any other is the last. Assumes nothing.
use Rattle.spelled.proofs.Spelling.{spelling}
use Rattle.operands.proofs.Laws.{joins}
use Rattle.operands.specs.SpelledOperators.{operator_of}
use mathlib.Core.Path.{sym, ap}
use Rattle.operands.proofs.operator_of.Goals as goal

pub returns-in-9 : goal.returns-in-9
unfolding spelling operator_of
returns-in-9 c = ap operator_of (sym c.in-9.is)

pub returns-in-19 : goal.returns-in-19
unfolding spelling operator_of
returns-in-19 c = ap operator_of (sym c.in-19.is)

pub returns-in-24 : goal.returns-in-24
unfolding spelling operator_of
returns-in-24 c = ap operator_of (sym c.in-24.is)

pub returns-in-85 : goal.returns-in-85
unfolding spelling operator_of
returns-in-85 c = ap operator_of (sym c.in-85.is)

pub returns-in-112 : goal.returns-in-112
unfolding spelling operator_of
returns-in-112 c = ap operator_of (sym c.in-112.is)

pub returns-in-20 : goal.returns-in-20
unfolding spelling operator_of
returns-in-20 c = ap operator_of (sym c.in-20.is)

pub returns-in-22 : goal.returns-in-22
unfolding spelling operator_of
returns-in-22 c = ap operator_of (sym c.in-22.is)

pub returns-in-28 : goal.returns-in-28
unfolding spelling operator_of
returns-in-28 c = ap operator_of (sym c.in-28.is)

pub returns-in-11 : goal.returns-in-11
unfolding spelling operator_of
returns-in-11 c = ap operator_of (sym c.in-11.is)

pub returns-in-27 : goal.returns-in-27
unfolding spelling operator_of
returns-in-27 c = ap operator_of (sym c.in-27.is)

pub returns-in-13 : goal.returns-in-13
unfolding spelling operator_of
returns-in-13 c = ap operator_of (sym c.in-13.is)

pub returns-in-29 : goal.returns-in-29
unfolding spelling operator_of
returns-in-29 c = ap operator_of (sym c.in-29.is)

pub returns-in-12 : goal.returns-in-12
unfolding spelling operator_of
returns-in-12 c = ap operator_of (sym c.in-12.is)

pub returns-in-38 : goal.returns-in-38
unfolding spelling operator_of
returns-in-38 c = ap operator_of (sym c.in-38.is)

pub returns-in-95 : goal.returns-in-95
unfolding spelling operator_of
returns-in-95 c = ap operator_of (sym c.in-95.is)

pub returns-in-86 : goal.returns-in-86
unfolding spelling operator_of
returns-in-86 c = ap operator_of (sym c.in-86.is)

pub returns-in-89 : goal.returns-in-89
unfolding spelling operator_of
returns-in-89 c = ap operator_of (sym c.in-89.is)

pub returns-in-147 : goal.returns-in-147
unfolding spelling operator_of
returns-in-147 c = ap operator_of (sym c.in-147.is)

pub returns-in-146 : goal.returns-in-146
unfolding spelling operator_of
returns-in-146 c = ap operator_of (sym c.in-146.is)

pub returns-in_default : goal.returns-in_default
unfolding spelling
returns-in_default c = search joins
