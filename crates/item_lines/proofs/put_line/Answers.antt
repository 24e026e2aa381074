use Rattle.item_lines.proofs.Laws.{item_line, no_line}
use Rattle.item_lines.proofs.put_line.Goals as goal

pub returns-then-is_item : goal.returns-then-is_item
returns-then-is_item c = search item_line

pub returns : goal.returns
returns c = search no_line
