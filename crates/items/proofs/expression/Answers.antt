-- The part of the rows that is lent. Assumes nothing.
use borrow.Author.Rules.{rules}
use native.Mathlib.Omega.{arith}
use Rattle.items.proofs.Laws.{held_room, part_is}
use Rattle.items.proofs.expression.Goals as goal

pub overflow_add-start : goal.overflow_add-start
overflow_add-start c = omega (arith, held_room c.args.rows.now c.args.items.now c.args.i c.args.m c.requires.0 c.requires.2, c.word-from.ensures)

pub overflow_mul-start : goal.overflow_mul-start
overflow_mul-start c = omega (arith, held_room c.args.rows.now c.args.items.now c.args.i c.args.m c.requires.0 c.requires.2, c.word-from.ensures)

pub overflow_add-end : goal.overflow_add-end
overflow_add-end c = omega (arith, held_room c.args.rows.now c.args.items.now c.args.i c.args.m c.requires.0 c.requires.2, c.word-from.ensures)

pub overflow_mul-end : goal.overflow_mul-end
overflow_mul-end c = omega (arith, held_room c.args.rows.now c.args.items.now c.args.i c.args.m c.requires.0 c.requires.2, c.word-from.ensures)

pub offset_bounds-rows-start : goal.offset_bounds-rows-start
offset_bounds-rows-start c = omega (arith, held_room c.args.rows.now c.args.items.now c.args.i c.args.m c.requires.0 c.requires.2, c.word-from.ensures)

pub slice_bounds-fold-end : goal.slice_bounds-fold-end
slice_bounds-fold-end c = let h = held_room c.args.rows.now c.args.items.now c.args.i c.args.m c.requires.0 c.requires.2 in
    search rules

pub returns : goal.returns
returns c = search part_is
