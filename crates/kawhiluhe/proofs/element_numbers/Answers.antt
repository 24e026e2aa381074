-- The elements, or a refusal. Assumes nothing.
use Rattle.kawhiluhe.proofs.Laws.{elements_read, elements_refused}
use Rattle.kawhiluhe.proofs.element_numbers.Goals as goal

pub returns-in-Ok : goal.returns-in-Ok
returns-in-Ok c = search elements_read

pub returns-in-Err : goal.returns-in-Err
returns-in-Err c = search elements_refused
