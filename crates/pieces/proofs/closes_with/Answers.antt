-- The three tests of a closing. Assumes nothing.
use Rattle.pieces.proofs.Classing.{ends_at_lem}
use Rattle.pieces.proofs.closes_with.Goals as goal

pub returns : goal.returns
returns c = search ends_at_lem
