-- What storing again answers, as numbers. Assumes nothing.
use Rattle.kawhiluhe.proofs.Laws.{again_permits}
use Rattle.kawhiluhe.proofs.kawhiluhe_store_again.Goals as goal

pub returns : goal.returns
returns c = search again_permits
