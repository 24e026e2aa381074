-- What the name comes to, as an operand. Assumes nothing.
use Rattle.expressions.proofs.Turns.{name_there}
use Rattle.expressions.proofs.name_outcome.Goals as goal

pub returns : goal.returns
returns c = search name_there
