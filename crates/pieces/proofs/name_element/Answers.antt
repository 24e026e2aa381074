-- The name's element, or 0. Assumes nothing.
use Rattle.pieces.proofs.Table.{name_none, name_some}
use Rattle.pieces.proofs.name_element.Goals as goal

pub returns-then-place-eq0 : goal.returns-then-place-eq0
returns-then-place-eq0 c = search name_none

pub returns : goal.returns
returns c = search name_some
