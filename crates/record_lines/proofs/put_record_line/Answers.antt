-- The refusal, the head, a record, or what comes after them. Assumes nothing.
use Rattle.record_lines.specs.Lines.{listed_line, record_line}
use Rattle.record_lines.proofs.Laws.{head_record, one_record, last_record}
use Rattle.refused_line.proofs.Laws.{its_line}
use Rattle.record_lines.proofs.put_record_line.Goals as goal

pub returns-in-Some : goal.returns-in-Some
unfolding record_line
returns-in-Some c = its_line c.args.answer.now (listed_line c.args.items.now c.args.answer.now) c.args.i c.in-Some.ensures

pub returns-then-i-eq0 : goal.returns-then-i-eq0
returns-then-i-eq0 c = search (head_record, c.in_default.ensures)

pub returns-then-i-n : goal.returns-then-i-n
returns-then-i-n c = search (one_record, c.in_default.ensures)

pub returns : goal.returns
returns c = search (last_record, c.in_default.ensures)
