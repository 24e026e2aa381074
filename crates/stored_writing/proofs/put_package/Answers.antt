-- The head and the name in a row. Assumes nothing.
use Rattle.stored_writing.proofs.Puts.{package_put}
use Rattle.stored_writing.proofs.put_package.Goals as goal

pub returns : goal.returns
returns c = search package_put
