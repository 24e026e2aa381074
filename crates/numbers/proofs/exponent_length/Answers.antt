-- The three ways that an exponent goes. Assumes nothing.
use Rattle.numbers.proofs.Laws.{exponent_other, exponent_none, exponent_in, exponent_whole, run_fits}
use lib.ListN.{length}
use Prim.Native.Nat.{◌<◌}
use native.Mathlib.Omega.{arith}
use Rattle.numbers.proofs.exponent_length.Goals as goal

pub returns-then-lower_case-ne101 : goal.returns-then-lower_case-ne101
returns-then-lower_case-ne101 c = search exponent_other

pub returns-then-not-is_digit : goal.returns-then-not-is_digit
returns-then-not-is_digit c = search exponent_none

pub slice_bounds-run_length-count : goal.slice_bounds-run_length-count
slice_bounds-run_length-count c = let h : c.exponent_head-n.result < length c.args.s.now = search exponent_in in omega arith

pub slice_bounds-run_length-start : goal.slice_bounds-run_length-start
slice_bounds-run_length-start c = let h : c.exponent_head-n.result < length c.args.s.now = search exponent_in in omega arith

pub overflow_add-result : goal.overflow_add-result
overflow_add-result c = let s = c.args.s.now in
    let h : c.exponent_head-n.result < length s = search exponent_in in
    omega (arith, run_fits 10 s c.exponent_head-n.result c.run_length.result (omega arith) c.run_length.ensures)

pub returns : goal.returns
returns c = search exponent_whole
