-- The loop: the places and lengths put with those from here are all. Assumes nothing.
use mathlib.Core.Path.{refl}
use native.Mathlib.Omega.{arith}
use borrow.Author.Rules.{rules}
use Rattle.stored_reading.proofs.Cases.{fits_head, fits_place, head_fits, fits_three, fits_next, less_next, there_next, note_room, note_word, note_cell, note_left, firsts_done, firsts_out, firsts_on, sizes_done, sizes_out, sizes_on}
use Rattle.stored_reading.proofs.note_names.Goals as goal

pub loop-at-init : goal.loop-at-init
loop-at-init c = (search rules, (omega arith, (refl, refl)))

pub returns-in-Wrong : goal.returns-in-Wrong
returns-in-Wrong c = record { firsts_after = search firsts_done; sizes_after = search sizes_done }

pub overflow_add-firsts : goal.overflow_add-firsts
overflow_add-firsts c = search fits_head

pub overflow_add-firsts-in-Gives : goal.overflow_add-firsts-in-Gives
overflow_add-firsts-in-Gives c = search fits_place

pub offset_bounds-firsts-w : goal.offset_bounds-firsts-w
offset_bounds-firsts-w c = search note_cell

pub bounds-firsts-w : goal.bounds-firsts-w
bounds-firsts-w c = search note_room

pub overflow_sub-sizes : goal.overflow_sub-sizes
overflow_sub-sizes c = search head_fits

pub offset_bounds-sizes-w : goal.offset_bounds-sizes-w
offset_bounds-sizes-w c = search note_cell

pub bounds-sizes-w : goal.bounds-sizes-w
bounds-sizes-w c = search note_room

pub overflow_add-w : goal.overflow_add-w
overflow_add-w c = search note_word

pub overflow_add-at : goal.overflow_add-at
overflow_add-at c = search fits_three

pub overflow_add-at-in-Gives : goal.overflow_add-at-in-Gives
overflow_add-at-in-Gives c = search fits_next

pub loop-at-smaller : goal.loop-at-smaller
loop-at-smaller c = search less_next

pub loop-at-preserved : goal.loop-at-preserved
loop-at-preserved c = (search there_next, (search note_left, (search firsts_on, search sizes_on)))

pub returns : goal.returns
returns c = record { firsts_after = search firsts_out; sizes_after = search sizes_out }
