-- The refusal, the head or a record's line. Assumes nothing.
use Rattle.item_lines.specs.Lines.{listed_line, survey_line}
use Rattle.item_lines.proofs.Laws.{head_survey, item_survey}
use Rattle.refused_line.proofs.Laws.{its_line}
use Rattle.item_lines.proofs.put_survey_line.Goals as goal

pub returns-in-Some : goal.returns-in-Some
unfolding survey_line
returns-in-Some c = its_line c.args.answer.now (listed_line c.args.text.now c.args.elements.now c.args.items.now c.args.answer.now) c.args.i c.in-Some.ensures

pub returns-then-i-eq0 : goal.returns-then-i-eq0
returns-then-i-eq0 c = search (head_survey, c.in_default.ensures)

pub returns : goal.returns
returns c = search (item_survey, c.in_default.ensures)
