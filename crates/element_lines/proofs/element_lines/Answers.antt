-- The head and the elements, or one. Assumes nothing.
use Rattle.element_lines.proofs.Laws.{lines_of}
use Rattle.element_lines.proofs.element_lines.Goals as goal

pub returns : goal.returns
returns c = search lines_of
