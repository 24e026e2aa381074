-- The digits, then the exponent after them. Assumes nothing.
use mathlib.Core.Bool.{true}
use Rattle.numbers.proofs.Laws.{fraction_whole, exponent_fits}
use Rattle.classes.proofs.Laws.{run_le}
use Rattle.classes.specs.declared.Run.TheVariants.{Below}
use native.Mathlib.Omega.{arith}
use Rattle.numbers.proofs.fraction_length.Goals as goal

pub slice_bounds-exponent_length-count : goal.slice_bounds-exponent_length-count
slice_bounds-exponent_length-count c = omega (arith, run_le (Below 10) c.args.s.now, c.run_length-n.ensures)

pub slice_bounds-exponent_length-start : goal.slice_bounds-exponent_length-start
slice_bounds-exponent_length-start c = omega (arith, run_le (Below 10) c.args.s.now, c.run_length-n.ensures)

pub overflow_add-result : goal.overflow_add-result
overflow_add-result c = let s = c.args.s.now in
    omega (arith, exponent_fits true s c.run_length-n.result c.exponent_length.result (omega (arith, run_le (Below 10) s, c.run_length-n.ensures)) c.exponent_length.ensures)

pub returns : goal.returns
returns c = search fraction_whole
