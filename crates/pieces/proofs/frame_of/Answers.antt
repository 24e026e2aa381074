-- The first piece is a heading, and the rest goes on from it. Assumes nothing.
use Rattle.pieces.proofs.Frames.{frame_empty, frame_other, frame_headed, head_inside, head_room}
use borrow.Author.Rules.{rules}
use Rattle.pieces.proofs.frame_of.Goals as goal

pub returns-then-n-eq0 : goal.returns-then-n-eq0
returns-then-n-eq0 c = search frame_empty

pub piece_class-m-requires : goal.piece_class-m-requires
piece_class-m-requires c = (search rules, search head_room)

pub returns-then-m-ne-HEADING : goal.returns-then-m-ne-HEADING
returns-then-m-ne-HEADING c = search frame_other

pub frame_from-requires : goal.frame_from-requires
frame_from-requires c = (search rules, search head_inside)

pub returns : goal.returns
returns c = search frame_headed
