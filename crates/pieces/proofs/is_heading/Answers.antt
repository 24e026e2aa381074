-- The four tests of a heading. Assumes nothing.
use Rattle.pieces.proofs.Classing.{heading_other, heading_is}
use Rattle.pieces.proofs.is_heading.Goals as goal

pub returns-then-count-ne-HEADING_SIZE : goal.returns-then-count-ne-HEADING_SIZE
returns-then-count-ne-HEADING_SIZE c = search heading_other

pub returns : goal.returns
returns c = search heading_is
