-- What the records say together. Assumes nothing.
use Rattle.survey_reading.proofs.Laws.{sums}
use Rattle.survey_reading.proofs.summed.Goals as goal

pub returns : goal.returns
returns c = search sums
