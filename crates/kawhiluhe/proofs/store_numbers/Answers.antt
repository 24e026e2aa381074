-- Its number, its place and the bytes. Assumes nothing.
use Rattle.kawhiluhe.proofs.Laws.{store_is}
use Rattle.kawhiluhe.proofs.store_numbers.Goals as goal

pub returns : goal.returns
returns c = search store_is
