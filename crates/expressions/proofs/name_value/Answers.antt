-- The name's element, used. Assumes nothing.
use Rattle.expressions.proofs.Turns.{value_there}
use Rattle.expressions.proofs.name_value.Goals as goal

pub returns : goal.returns
returns c = search value_there
