-- The name's element, or none. Assumes nothing.
use Rattle.pieces.proofs.Frames.{closing_none, closing_some}
use Rattle.pieces.proofs.closing_name.Goals as goal

pub returns-then-place-eq0 : goal.returns-then-place-eq0
returns-then-place-eq0 c = search closing_none

pub returns : goal.returns
returns c = search closing_some
