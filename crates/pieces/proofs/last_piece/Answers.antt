-- A closing, or no good frame. Assumes nothing.
use Rattle.pieces.proofs.Frames.{last_other, last_closing}
use Rattle.pieces.proofs.last_piece.Goals as goal

pub returns-then-m-ne-CLOSING : goal.returns-then-m-ne-CLOSING
returns-then-m-ne-CLOSING c = search last_other

pub returns : goal.returns
returns c = search last_closing
