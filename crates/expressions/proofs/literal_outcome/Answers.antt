-- The literal at its element. Assumes nothing.
use Rattle.expressions.proofs.Turns.{literal_there}
use Rattle.expressions.proofs.literal_outcome.Goals as goal

pub returns : goal.returns
returns c = search literal_there
