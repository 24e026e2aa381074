-- The invariant: the table, with the records of the rest stored after, is the table with all of them. Assumes nothing.
use borrow.Author.Rules.{rules}
use native.Mathlib.Omega.{arith}
use Rattle.pieces.proofs.Table.{place_fits, record_turn, room_here, room_turn, length_turn, records_end}
use Rattle.pieces.proofs.Laws.{size_inside, at_fits, at_less}
use Prim.Native.Nat.{◌-◌}
use mathlib.Core.Path.{refl}
use Rattle.pieces.proofs.write_records.Goals as goal

pub loop-at-init : goal.loop-at-init
loop-at-init c = (search rules, omega arith, refl, refl)

pub piece_class-m-requires : goal.piece_class-m-requires
piece_class-m-requires c = (search rules, search size_inside)

pub write_record-requires : goal.write_record-requires
write_record-requires c = (search room_here, search place_fits)

pub overflow_add-at : goal.overflow_add-at
overflow_add-at c = search at_fits

pub loop-at-smaller : goal.loop-at-smaller
loop-at-smaller c = search at_less

pub loop-at-preserved : goal.loop-at-preserved
loop-at-preserved c = (search size_inside, search room_turn, search length_turn, search record_turn)

pub shape_of-items : goal.shape_of-items
shape_of-items c = c.loop-at.invariant.2

pub returns : goal.returns
returns c = search records_end
