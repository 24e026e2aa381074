-- A kind that is tested for computes; any other is the last. Assumes nothing.
use Rattle.spelled.proofs.Spelling.{spelling}
use Rattle.operands.proofs.Laws.{pluses}
use Rattle.operands.specs.SpelledOperators.{sign_of}
use mathlib.Core.Path.{sym, ap}
use Rattle.operands.proofs.sign_of.Goals as goal

pub returns-in-22 : goal.returns-in-22
unfolding spelling sign_of
returns-in-22 c = ap sign_of (sym c.in-22.is)

pub returns-in-33 : goal.returns-in-33
unfolding spelling sign_of
returns-in-33 c = ap sign_of (sym c.in-33.is)

pub returns-in-90 : goal.returns-in-90
unfolding spelling sign_of
returns-in-90 c = ap sign_of (sym c.in-90.is)

pub returns-in_default : goal.returns-in_default
unfolding spelling
returns-in_default c = search pluses
