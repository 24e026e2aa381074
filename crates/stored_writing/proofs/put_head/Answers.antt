-- The tag and the two bytes in a row. Assumes nothing.
use Rattle.stored_writing.proofs.Puts.{head_put}
use Rattle.stored_writing.proofs.put_head.Goals as goal

pub returns : goal.returns
returns c = search head_put
