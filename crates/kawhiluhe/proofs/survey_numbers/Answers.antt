-- What is said of a package, or a refusal. Assumes nothing.
use Rattle.kawhiluhe.proofs.Laws.{survey_done, survey_refused}
use Rattle.kawhiluhe.proofs.survey_numbers.Goals as goal

pub returns-in-Ok : goal.returns-in-Ok
returns-in-Ok c = search survey_done

pub returns-in-Err : goal.returns-in-Err
returns-in-Err c = search survey_refused
