-- Looked for only where a name is claimed twice. Assumes nothing.
use Rattle.survey_reading.proofs.Laws.{pair_there}
use Rattle.survey_reading.proofs.pair_of.Goals as goal

pub returns-then-any : goal.returns-then-any
returns-then-any c = search pair_there
