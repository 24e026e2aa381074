-- The head and the rows, or one. Assumes nothing.
use Rattle.tree_lines.proofs.Laws.{lines_of}
use Rattle.tree_lines.proofs.tree_lines.Goals as goal

pub returns : goal.returns
returns c = search lines_of
