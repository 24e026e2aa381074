-- The five ways that a piece is told. Assumes nothing.
use Rattle.pieces.proofs.Classing.{mark_heading, mark_named, mark_named_other, mark_plain, mark_plain_other, word_room, next_room, next_fits}
use borrow.Author.Rules.{rules}
use Rattle.pieces.proofs.piece_class.Goals as goal

pub returns-then-is_heading : goal.returns-then-is_heading
returns-then-is_heading c = search mark_heading

pub overflow_add-w : goal.overflow_add-w
overflow_add-w c = search next_fits

pub closes_with-requires : goal.closes_with-requires
closes_with-requires c = (search rules, search rules, search next_room)

pub returns-then-closes_with : goal.returns-then-closes_with
returns-then-closes_with c = search mark_named

pub returns-then-is_name : goal.returns-then-is_name
returns-then-is_name c = search mark_named_other

pub closes_with-requires-2 : goal.closes_with-requires-2
closes_with-requires-2 c = (search rules, search rules, search word_room)

pub returns-then-closes_with-2 : goal.returns-then-closes_with-2
returns-then-closes_with-2 c = search mark_plain

pub returns : goal.returns
returns c = search mark_plain_other
