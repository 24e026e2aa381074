-- The kind and the two numbers in a row. Assumes nothing.
use Rattle.stored_writing.proofs.Puts.{ends_put}
use Rattle.stored_writing.proofs.put_ends.Goals as goal

pub returns : goal.returns
returns c = search ends_put
