-- The invariant: what the pieces left say is what all of them say. Assumes nothing.
use borrow.Author.Rules.{rules}
use Rattle.pieces.proofs.Frames.{frame_none, frame_last, frame_stop, frame_turn}
use Rattle.pieces.proofs.Table.{place_fits}
use Rattle.pieces.proofs.Laws.{size_inside, at_fits, at_less}
use Prim.Native.Nat.{◌-◌}
use mathlib.Core.Path.{refl}
use Rattle.pieces.proofs.frame_from.Goals as goal

pub loop-at-init : goal.loop-at-init
loop-at-init c = (search rules, refl)

pub piece_class-m-requires : goal.piece_class-m-requires
piece_class-m-requires c = (search rules, search size_inside)

pub overflow_add-next : goal.overflow_add-next
overflow_add-next c = search at_fits

pub last_piece-requires : goal.last_piece-requires
last_piece-requires c = search place_fits

pub returns-then-next-n : goal.returns-then-next-n
returns-then-next-n c = search frame_last

pub returns-then-is_either : goal.returns-then-is_either
returns-then-is_either c = search frame_stop

pub loop-at-smaller : goal.loop-at-smaller
loop-at-smaller c = search at_less

pub loop-at-preserved : goal.loop-at-preserved
loop-at-preserved c = (search size_inside, search frame_turn)

pub returns : goal.returns
returns c = search frame_none
