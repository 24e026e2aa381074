-- The refusal, the head or a row. Assumes nothing.
use Rattle.tree_lines.specs.Lines.{listed_line, tree_line}
use Rattle.tree_lines.proofs.Laws.{head_tree, row_tree}
use Rattle.refused_line.proofs.Laws.{its_line}
use Rattle.tree_lines.proofs.put_tree_line.Goals as goal

pub returns-in-Some : goal.returns-in-Some
unfolding tree_line
returns-in-Some c = its_line c.args.answer.now (listed_line c.args.tree.now c.args.answer.now) c.args.i c.in-Some.ensures

pub returns-then-i-eq0 : goal.returns-then-i-eq0
returns-then-i-eq0 c = search (head_tree, c.in_default.ensures)

pub returns : goal.returns
returns c = search (row_tree, c.in_default.ensures)
