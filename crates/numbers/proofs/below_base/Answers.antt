-- The three ways that digits below a base go. Assumes nothing.
use mathlib.Core.Bool.{false}
use Prim.Native.Nat.{◌+◌}
use Rattle.numbers.proofs.Laws.{below_none, below_open, below_whole, byte_at, exponent_fits}
use native.Mathlib.Omega.{arith}
use Rattle.numbers.proofs.below_base.Goals as goal

pub returns-then-not-in_run : goal.returns-then-not-in_run
returns-then-not-in_run c = search below_none

pub returns-then-byte_or-ne35 : goal.returns-then-byte_or-ne35
returns-then-byte_or-ne35 c = search below_open

pub overflow_add-m : goal.overflow_add-m
overflow_add-m c = omega (arith, byte_at c.args.s.now c.run_length-n.result _ 34 c.byte_or-2.ensures c.if-byte_or-ne35.false)

pub slice_bounds-exponent_length-count : goal.slice_bounds-exponent_length-count
slice_bounds-exponent_length-count c = omega (arith, byte_at c.args.s.now c.run_length-n.result _ 34 c.byte_or-2.ensures c.if-byte_or-ne35.false)

pub slice_bounds-exponent_length-start : goal.slice_bounds-exponent_length-start
slice_bounds-exponent_length-start c = omega (arith, byte_at c.args.s.now c.run_length-n.result _ 34 c.byte_or-2.ensures c.if-byte_or-ne35.false)

pub overflow_add-result : goal.overflow_add-result
overflow_add-result c = let s = c.args.s.now in
    let n = c.run_length-n.result in
    omega (arith, exponent_fits false s (n + 1) c.exponent_length.result (omega (arith, byte_at s n _ 34 c.byte_or-2.ensures c.if-byte_or-ne35.false)) c.exponent_length.ensures)

pub returns : goal.returns
returns c = search below_whole
