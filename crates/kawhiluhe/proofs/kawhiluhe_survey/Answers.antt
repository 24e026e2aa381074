-- What the survey answers, as numbers. Assumes nothing.
use Rattle.kawhiluhe.proofs.Laws.{survey_permits}
use Rattle.kawhiluhe.proofs.kawhiluhe_survey.Goals as goal

pub returns : goal.returns
returns c = search survey_permits
