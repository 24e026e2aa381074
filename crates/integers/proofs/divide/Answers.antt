-- A divisor of 0 stops; any other divides. Assumes nothing.
use borrow.Author.Rules.{rules}
use Rattle.integers.specs.Integers.{divided_of}
use Rattle.integers.proofs.divide.Goals as goal

pub returns-in-0 : goal.returns-in-0
unfolding divided_of
returns-in-0 c = search rules

pub returns-in_default : goal.returns-in_default
unfolding divided_of
returns-in_default c = search rules
