-- The four bytes in a row. Assumes nothing.
use Rattle.stored_writing.proofs.Puts.{four_put}
use Rattle.stored_writing.proofs.put_four.Goals as goal

pub returns : goal.returns
returns c = search four_put
