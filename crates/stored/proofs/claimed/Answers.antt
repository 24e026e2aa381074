-- The six names. Assumes nothing.
use Rattle.stored.proofs.Names.{is_claimed_lem}
use Rattle.words.specs.Words.{bytes_of}
use Rattle.stored.proofs.claimed.Goals as goal

pub returns : goal.returns
unfolding bytes_of
returns c = search is_claimed_lem
