-- What storing answers, as numbers. Assumes nothing.
use Rattle.kawhiluhe.proofs.Laws.{store_permits}
use Rattle.kawhiluhe.proofs.kawhiluhe_store.Goals as goal

pub returns : goal.returns
returns c = search store_permits
