-- The loop: those counted with those from here are all. Assumes nothing.
use mathlib.Core.Path.{refl}
use native.Mathlib.Omega.{arith}
use Rattle.stored_reading.proofs.Cases.{count_wrong, count_ends, count_on, count_out, fits_three, fits_next, less_next}
use Rattle.stored_reading.proofs.count_from.Goals as goal

pub loop-at-init : goal.loop-at-init
loop-at-init c = (omega arith, refl)

pub returns-in-Wrong : goal.returns-in-Wrong
returns-in-Wrong c = search count_wrong

pub returns-in-Ends : goal.returns-in-Ends
returns-in-Ends c = search count_ends

pub overflow_add-at : goal.overflow_add-at
overflow_add-at c = search fits_three

pub overflow_add-at-in-Gives : goal.overflow_add-at-in-Gives
overflow_add-at-in-Gives c = search fits_next

pub loop-at-smaller : goal.loop-at-smaller
loop-at-smaller c = search less_next

pub loop-at-preserved : goal.loop-at-preserved
loop-at-preserved c = (omega arith, search count_on)

pub returns : goal.returns
returns c = search count_out
