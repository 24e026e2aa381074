-- After the first bound's rows, or none. Assumes nothing.
use native.Mathlib.Omega.{arith}
use Rattle.items.specs.code.Items.{range_at}
use Rattle.items.proofs.Laws.{held_room, second_none}
use Rattle.items.proofs.second_bound.Goals as goal

pub returns-then-m-eq-FIRST_BOUND : goal.returns-then-m-eq-FIRST_BOUND
returns-then-m-eq-FIRST_BOUND c = search second_none

pub overflow_add-size : goal.overflow_add-size
overflow_add-size c = omega (arith, held_room c.args.rows.now c.args.items.now c.args.i c.args.m (omega (arith, c.requires.0)) c.requires.1, c.word-from.ensures, c.requires.0)

pub overflow_mul-size : goal.overflow_mul-size
overflow_mul-size c = omega (arith, held_room c.args.rows.now c.args.items.now c.args.i c.args.m (omega (arith, c.requires.0)) c.requires.1, c.word-from.ensures, c.requires.0)

pub overflow_add-size-2 : goal.overflow_add-size-2
overflow_add-size-2 c = omega (arith, held_room c.args.rows.now c.args.items.now c.args.i c.args.m (omega (arith, c.requires.0)) c.requires.1, c.word-from.ensures, c.requires.0, c.if-m-eq-FIRST_BOUND.false)

pub offset_bounds-rows-from : goal.offset_bounds-rows-from
offset_bounds-rows-from c = omega (arith, held_room c.args.rows.now c.args.items.now c.args.i c.args.m (omega (arith, c.requires.0)) c.requires.1, c.word-from.ensures, c.requires.0, c.if-m-eq-FIRST_BOUND.false)

pub bounds-rows-from : goal.bounds-rows-from
bounds-rows-from c = omega (arith, held_room c.args.rows.now c.args.items.now c.args.i c.args.m (omega (arith, c.requires.0)) c.requires.1, c.word-from.ensures, c.requires.0, c.if-m-eq-FIRST_BOUND.false)

pub returns : goal.returns
unfolding range_at
returns c = rw (← c.word-from.ensures) (omega arith)
