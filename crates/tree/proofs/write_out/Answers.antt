-- `tree::write_out` meets its contract. What is stored, with what is left, is the whole; the measure is the rows and bases left. Assumes nothing.
use mathlib.Core.Path.{refl}
use native.Mathlib.Omega.{arith}
use lib.ListN.{length-set}
use Rattle.tree.proofs.Writing as writing
use Rattle.tree.proofs.write_out.Goals as goal

pub loop-out-init : goal.loop-out-init
loop-out-init c = (refl, writing.all_left c.requires.0.0 c.requires.0.1.0 c.requires.0.1.1)

pub offset_bounds-heads-base : goal.offset_bounds-heads-base
offset_bounds-heads-base c = omega (arith, writing.bases_bound c.loop-out.invariant.1)

pub bounds-heads-base : goal.bounds-heads-base
bounds-heads-base c = let b = (writing.next_base c.loop-out.invariant.1 c.if-link-eq0.true c.loop-out-test.true c.requires.6).0 in omega arith

pub overflow_add-base : goal.overflow_add-base
overflow_add-base c = omega (arith, writing.bases_bound c.loop-out.invariant.1)

pub loop-out-smaller-then-link-eq0 : goal.loop-out-smaller-then-link-eq0
loop-out-smaller-then-link-eq0 c = let b = (writing.next_base c.loop-out.invariant.1 c.if-link-eq0.true c.loop-out-test.true c.requires.6).0 in omega arith

pub loop-out-preserved-then-link-eq0 : goal.loop-out-preserved-then-link-eq0
loop-out-preserved-then-link-eq0 c = (c.loop-out.invariant.0, (writing.next_base c.loop-out.invariant.1 c.if-link-eq0.true c.loop-out-test.true c.requires.6).1)

pub overflow_mul-from : goal.overflow_mul-from
overflow_mul-from c = omega (arith, c.loop-out.invariant.1.low)

pub offset_bounds-cells-from : goal.offset_bounds-cells-from
offset_bounds-cells-from c = omega (arith, c.loop-out.invariant.1.low)

pub bounds-cells-from : goal.bounds-cells-from
bounds-cells-from c = omega (arith, c.loop-out.invariant.1.low)

pub overflow_add-tab : goal.overflow_add-tab
overflow_add-tab c = omega (arith, c.loop-out.invariant.1.low)

pub offset_bounds-cells-from-else-link-eq0 : goal.offset_bounds-cells-from-else-link-eq0
offset_bounds-cells-from-else-link-eq0 c = omega (arith, c.loop-out.invariant.1.low)

pub bounds-cells-from-else-link-eq0 : goal.bounds-cells-from-else-link-eq0
bounds-cells-from-else-link-eq0 c = omega (arith, c.loop-out.invariant.1.low)

pub bounds-tab-to-else-link-eq0 : goal.bounds-tab-to-else-link-eq0
bounds-tab-to-else-link-eq0 c = simp length-set (omega arith)

pub overflow_add-tab-else-link-eq0-2 : goal.overflow_add-tab-else-link-eq0-2
overflow_add-tab-else-link-eq0-2 c = omega (arith, c.loop-out.invariant.1.low)

pub offset_bounds-cells-from-else-link-eq0-2 : goal.offset_bounds-cells-from-else-link-eq0-2
offset_bounds-cells-from-else-link-eq0-2 c = omega (arith, c.loop-out.invariant.1.low)

pub bounds-cells-from-else-link-eq0-2 : goal.bounds-cells-from-else-link-eq0-2
bounds-cells-from-else-link-eq0-2 c = omega (arith, c.loop-out.invariant.1.low)

pub bounds-tab-to-else-link-eq0-2 : goal.bounds-tab-to-else-link-eq0-2
bounds-tab-to-else-link-eq0-2 c = simp length-set (omega arith)

pub overflow_add-tab-else-link-eq0-4 : goal.overflow_add-tab-else-link-eq0-4
overflow_add-tab-else-link-eq0-4 c = omega (arith, c.loop-out.invariant.1.low)

pub offset_bounds-cells-from-else-link-eq0-3 : goal.offset_bounds-cells-from-else-link-eq0-3
offset_bounds-cells-from-else-link-eq0-3 c = omega (arith, c.loop-out.invariant.1.low)

pub bounds-cells-from-else-link-eq0-3 : goal.bounds-cells-from-else-link-eq0-3
bounds-cells-from-else-link-eq0-3 c = omega (arith, c.loop-out.invariant.1.low)

pub bounds-tab-to-else-link-eq0-3 : goal.bounds-tab-to-else-link-eq0-3
bounds-tab-to-else-link-eq0-3 c = simp length-set (omega arith)

pub overflow_add-tab-else-link-eq0-6 : goal.overflow_add-tab-else-link-eq0-6
overflow_add-tab-else-link-eq0-6 c = omega (arith, c.loop-out.invariant.1.low)

pub offset_bounds-cells-from-else-link-eq0-4 : goal.offset_bounds-cells-from-else-link-eq0-4
offset_bounds-cells-from-else-link-eq0-4 c = omega (arith, c.loop-out.invariant.1.low)

pub bounds-cells-from-else-link-eq0-4 : goal.bounds-cells-from-else-link-eq0-4
bounds-cells-from-else-link-eq0-4 c = omega (arith, c.loop-out.invariant.1.low)

pub bounds-tab-to-else-link-eq0-4 : goal.bounds-tab-to-else-link-eq0-4
bounds-tab-to-else-link-eq0-4 c = simp length-set (omega arith)

pub offset_bounds-next-link : goal.offset_bounds-next-link
offset_bounds-next-link c = omega (arith, c.loop-out.invariant.1.low)

pub bounds-next-link : goal.bounds-next-link
bounds-next-link c = omega (arith, c.loop-out.invariant.1.low)

pub loop-out-preserved : goal.loop-out-preserved
loop-out-preserved c = (simp length-set c.loop-out.invariant.0, writing.next_row c.loop-out.invariant.1 c.if-link-eq0.false)

pub shape_of-tab : goal.shape_of-tab
shape_of-tab c = c.loop-out.invariant.0

pub returns : goal.returns
returns c = writing.all_written c.loop-out.invariant.1 c.loop-out-test.false
