-- Its number, its place and the bytes. Assumes nothing.
use Rattle.kawhiluhe.proofs.Laws.{again_is}
use Rattle.kawhiluhe.proofs.again_numbers.Goals as goal

pub returns : goal.returns
returns c = search again_is
