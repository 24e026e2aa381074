-- The elements that the table has; past the last there is no piece. Assumes nothing.
use Rattle.pieces.proofs.Laws.{size_none, size_known}
use Rattle.pieces.proofs.piece_size.Goals as goal

pub returns-then-n-first : goal.returns-then-n-first
returns-then-n-first c = search size_none

pub returns : goal.returns
returns c = search size_known
