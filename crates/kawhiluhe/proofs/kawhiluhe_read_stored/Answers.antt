-- What reading a stored table answers, as numbers. Assumes nothing.
use Rattle.kawhiluhe.proofs.Laws.{unstore_permits}
use Rattle.kawhiluhe.proofs.kawhiluhe_read_stored.Goals as goal

pub returns : goal.returns
returns c = search unstore_permits
