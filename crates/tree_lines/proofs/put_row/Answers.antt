-- The row's number and its five. Assumes nothing.
use Rattle.tree_lines.proofs.Laws.{row_put}
use Rattle.tree_lines.proofs.put_row.Goals as goal

pub returns : goal.returns
returns c = search row_put
