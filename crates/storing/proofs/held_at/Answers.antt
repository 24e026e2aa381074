-- By the words of the record. Assumes nothing.
use Rattle.storing.proofs.Puts.{held_is}
use Rattle.storing.proofs.held_at.Goals as goal

pub returns : goal.returns
returns c = search held_is
