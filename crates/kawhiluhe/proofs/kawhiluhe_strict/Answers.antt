-- What the strict reading answers, as numbers. Assumes nothing.
use Rattle.kawhiluhe.proofs.Laws.{strict_permits}
use Rattle.kawhiluhe.proofs.kawhiluhe_strict.Goals as goal

pub returns : goal.returns
returns c = search strict_permits
