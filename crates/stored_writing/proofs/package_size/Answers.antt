-- The head and the name. Assumes nothing.
use Rattle.stored_writing.proofs.Puts.{package_size}
use Rattle.stored_writing.proofs.package_size.Goals as goal

pub returns : goal.returns
returns c = search package_size
