-- A row's kind, or 0 past the last. Assumes nothing.
use Rattle.pieces.proofs.Laws.{kind_here, kinds_past}
use Rattle.pieces.proofs.kind_at.Goals as goal

pub returns-then-e-n : goal.returns-then-e-n
returns-then-e-n c = search kind_here

pub returns-else-e-n : goal.returns-else-e-n
returns-else-e-n c = search kinds_past
