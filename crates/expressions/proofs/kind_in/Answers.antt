-- The kind in the row of the element. Assumes nothing.
use Rattle.expressions.proofs.Turns.{kind_there}
use Rattle.expressions.proofs.kind_in.Goals as goal

pub returns : goal.returns
returns c = search kind_there
