-- By the class. Assumes nothing.
use Rattle.storing_again.proofs.Puts.{value_constant, value_subtype}
use Rattle.storing_again.proofs.value_in.Goals as goal

pub returns-then-class-eq-CONSTANT : goal.returns-then-class-eq-CONSTANT
returns-then-class-eq-CONSTANT c = search value_constant

pub returns : goal.returns
returns c = search value_subtype
