-- The refusal, the head or an item's line. Assumes nothing.
use Rattle.stored_lines.specs.Lines.{stored_listed, stored_line}
use Rattle.stored_lines.proofs.Laws.{head_stored, item_stored}
use Rattle.refused_line.proofs.Laws.{its_line}
use Rattle.stored_lines.proofs.put_stored_line.Goals as goal

pub returns-in-Some : goal.returns-in-Some
unfolding stored_line
returns-in-Some c = its_line c.args.answer.now (stored_listed c.args.bytes.now c.args.rows.now c.args.answer.now) c.args.i c.in-Some.ensures

pub returns-then-i-eq0 : goal.returns-then-i-eq0
returns-then-i-eq0 c = search (head_stored, c.in_default.ensures)

pub returns : goal.returns
returns c = search (item_stored, c.in_default.ensures)
