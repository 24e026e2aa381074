-- The name of row 1. Assumes nothing.
use native.Mathlib.Omega.{arith}
use Rattle.items.proofs.Laws.{held_room, mark_is}
use mathlib.Core.Path.{refl}
use Rattle.items.proofs.mark_value.Goals as goal

pub overflow_add-j : goal.overflow_add-j
overflow_add-j c = omega (arith, held_room c.args.rows.now c.args.items.now c.args.i _ (omega (arith, c.requires)) refl, c.word-from.ensures, c.requires)

pub overflow_mul-j : goal.overflow_mul-j
overflow_mul-j c = omega (arith, held_room c.args.rows.now c.args.items.now c.args.i _ (omega (arith, c.requires)) refl, c.word-from.ensures, c.requires)

pub overflow_add-j-2 : goal.overflow_add-j-2
overflow_add-j-2 c = omega (arith, held_room c.args.rows.now c.args.items.now c.args.i _ (omega (arith, c.requires)) refl, c.word-from.ensures, c.requires)

pub offset_bounds-rows-from : goal.offset_bounds-rows-from
offset_bounds-rows-from c = omega (arith, held_room c.args.rows.now c.args.items.now c.args.i _ (omega (arith, c.requires)) refl, c.word-from.ensures, c.requires)

pub bounds-rows-from : goal.bounds-rows-from
bounds-rows-from c = omega (arith, held_room c.args.rows.now c.args.items.now c.args.i _ (omega (arith, c.requires)) refl, c.word-from.ensures, c.requires)

pub returns : goal.returns
returns c = search mark_is
