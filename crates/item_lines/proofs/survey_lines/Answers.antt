-- The head and the records, or one. Assumes nothing.
use Rattle.item_lines.proofs.Laws.{lines_of}
use Rattle.item_lines.proofs.survey_lines.Goals as goal

pub returns : goal.returns
returns c = search lines_of
