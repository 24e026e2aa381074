-- The head and the items, or one. Assumes nothing.
use Rattle.stored_lines.proofs.Laws.{lines_of}
use Rattle.stored_lines.proofs.stored_lines.Goals as goal

pub returns : goal.returns
returns c = search lines_of
