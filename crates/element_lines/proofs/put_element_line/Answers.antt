-- The refusal, the head or an element. Assumes nothing.
use Rattle.element_lines.specs.Lines.{listed_line, element_line}
use Rattle.element_lines.proofs.Laws.{head_element, one_element}
use Rattle.refused_line.proofs.Laws.{its_line}
use Rattle.element_lines.proofs.put_element_line.Goals as goal

pub returns-in-Some : goal.returns-in-Some
unfolding element_line
returns-in-Some c = its_line c.args.answer.now (listed_line c.args.table.now c.args.answer.now) c.args.i c.in-Some.ensures

pub returns-then-i-eq0 : goal.returns-then-i-eq0
returns-then-i-eq0 c = search (head_element, c.in_default.ensures)

pub returns : goal.returns
returns c = search (one_element, c.in_default.ensures)
