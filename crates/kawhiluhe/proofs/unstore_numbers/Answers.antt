-- The items, or a refusal. Assumes nothing.
use Rattle.kawhiluhe.proofs.Laws.{unstore_read, unstore_refused}
use Rattle.kawhiluhe.proofs.unstore_numbers.Goals as goal

pub returns-in-Ok : goal.returns-in-Ok
returns-in-Ok c = search unstore_read

pub returns-in-Err : goal.returns-in-Err
returns-in-Err c = search unstore_refused
