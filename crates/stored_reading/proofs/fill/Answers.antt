-- The loop: the rows put with those from here are all. Assumes nothing.
use mathlib.Core.Path.{refl}
use native.Mathlib.Omega.{arith}
use borrow.Author.Rules.{rules}
use Rattle.stored_reading.proofs.Cases.{fill_done, fill_out, fits_place, head_fits, fill_room, fill_word, fits_three, fits_next, less_next, there_next, fill_length, fill_left, fill_on}
use Rattle.stored_reading.proofs.fill.Goals as goal

pub loop-at-init : goal.loop-at-init
loop-at-init c = (search rules, (refl, (omega arith, refl)))

pub returns-in-Wrong : goal.returns-in-Wrong
returns-in-Wrong c = search fill_done

pub overflow_add-at : goal.overflow_add-at
overflow_add-at c = search fits_place

pub overflow_sub-k : goal.overflow_sub-k
overflow_sub-k c = search head_fits

pub put_item-requires : goal.put_item-requires
put_item-requires c = search fill_room

pub overflow_add-w : goal.overflow_add-w
overflow_add-w c = search fill_word

pub overflow_add-at-in-Gives : goal.overflow_add-at-in-Gives
overflow_add-at-in-Gives c = search fits_three

pub overflow_add-at-in-Gives-2 : goal.overflow_add-at-in-Gives-2
overflow_add-at-in-Gives-2 c = search fits_next

pub loop-at-smaller : goal.loop-at-smaller
loop-at-smaller c = search less_next

pub loop-at-preserved : goal.loop-at-preserved
loop-at-preserved c = (search there_next, (search fill_length, (search fill_left, search fill_on)))

pub returns : goal.returns
returns c = search fill_out
