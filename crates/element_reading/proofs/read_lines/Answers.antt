-- The invariant: the rows so far, with those of the lines that are left, are the whole text's, in number and in the table. Assumes nothing.
use Rattle.element_reading.proofs.Turns.{line_asks}
use borrow.Author.Rules.{rules}
use Rattle.element_reading.proofs.Turns.{line_in, text_below, text_count, text_puts, text_length, text_counted, text_put}
use Rattle.element_reading.specs.Rows.{rows_of}
use lib.ListN.{length}
use native.Mathlib.Omega.{arith}
use Prim.Native.Nat.{◌+◌, ◌≤◌}
use mathlib.Core.Path.{refl}
use Rattle.element_reading.proofs.read_lines.Goals as goal

pub loop-at-init : goal.loop-at-init
unfolding rows_of
loop-at-init c = (omega arith, omega arith, omega arith, refl, refl)

pub overflow_add-end : goal.overflow_add-end
overflow_add-end c = let h : c.loop-at.at + c.line_length.result ≤ length c.args.s.now = search line_in in omega arith

pub slice_bounds-read_line-end : goal.slice_bounds-read_line-end
slice_bounds-read_line-end c = let h : c.loop-at.at + c.line_length.result ≤ length c.args.s.now = search line_in in omega arith

pub read_line-m-requires : goal.read_line-m-requires
read_line-m-requires c = (search line_asks, search rules)

pub overflow_add-at : goal.overflow_add-at
overflow_add-at c = let h : c.loop-at.at + c.line_length.result ≤ length c.args.s.now = search line_in in
    omega arith

pub loop-at-preserved : goal.loop-at-preserved
loop-at-preserved c = let h : c.loop-at.at + c.line_length.result ≤ length c.args.s.now = search line_in in
    (omega arith, search text_below, search text_count, search text_length, search text_puts)

pub shape_of-t : goal.shape_of-t
shape_of-t c = c.loop-at.invariant.3

pub returns : goal.returns
returns c = record { value = search text_counted; t_after = search text_put }
