-- The head alone. Assumes nothing.
use Rattle.stored_writing.proofs.Puts.{end_put}
use Rattle.stored_writing.proofs.put_end.Goals as goal

pub returns : goal.returns
returns c = search end_put
