-- Whether the bytes are the same is what `==` says. Assumes nothing.
use Rattle.arguments.proofs.Laws.{same_is}
use Rattle.arguments.proofs.same_bytes.Goals as goal

pub returns : goal.returns
returns c = search same_is
