-- The invariant: the rows so far, with those of the rest of the line, are the whole line's, in number and in the table. Assumes nothing.
use Rattle.element_reading.proofs.Turns.{line_counted, line_put}
use borrow.Author.Rules.{rules}
use Rattle.element_reading.proofs.Turns.{skip_in, skip_fits, skip_less, skip_below, skip_count, skip_puts, add_in, add_fits, add_less, add_below, add_count, add_puts, kept_length}
use native.Mathlib.Omega.{arith}
use native.Mathlib.Nat.{add-zero}
use mathlib.Core.Path.{refl}
use Rattle.element_reading.proofs.read_line.Goals as goal

pub loop-i-init : goal.loop-i-init
loop-i-init c = (omega arith, omega arith, rw add-zero, refl, rw add-zero)

pub overflow_add-i : goal.overflow_add-i
overflow_add-i c = search skip_fits

pub loop-i-smaller-in-Skip : goal.loop-i-smaller-in-Skip
loop-i-smaller-in-Skip c = search skip_less

pub loop-i-preserved-in-Skip : goal.loop-i-preserved-in-Skip
loop-i-preserved-in-Skip c = (search skip_in, search skip_below, search skip_count, search rules, search skip_puts)

pub overflow_add-i-in-Element : goal.overflow_add-i-in-Element
overflow_add-i-in-Element c = search add_fits

pub loop-i-smaller : goal.loop-i-smaller
loop-i-smaller c = search add_less

pub loop-i-preserved : goal.loop-i-preserved
loop-i-preserved c = (search add_in, search add_below, search add_count, search kept_length, search add_puts)

pub shape_of-t : goal.shape_of-t
shape_of-t c = c.loop-i.invariant.3

pub returns : goal.returns
returns c = record { result_value = search line_counted; t_after = search line_put }
