-- The low half of a word is the number in 32 bits. Assumes nothing.
use Rattle.stored_writing.proofs.Puts.{number_put}
use Rattle.stored_writing.proofs.put_number.Goals as goal

pub returns : goal.returns
returns c = search number_put
