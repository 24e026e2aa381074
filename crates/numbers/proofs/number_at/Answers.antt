-- The four ways of a number. Assumes nothing.
use Rattle.numbers.proofs.Laws.{number_asks, number_none, number_based, number_pointed, number_plain, exponent_fits}
use mathlib.Core.Bool.{false}
use Rattle.classes.proofs.Laws.{run_le}
use Rattle.classes.specs.declared.Run.TheVariants.{Below}
use native.Mathlib.Omega.{arith}
use Rattle.numbers.proofs.number_at.Goals as goal

pub returns-then-not-is_digit : goal.returns-then-not-is_digit
returns-then-not-is_digit c = search number_none

pub based_at-requires : goal.based_at-requires
based_at-requires c = number_asks _ _ _ c.run_length-n.ensures c.byte_or-b.ensures 34 c.if-b-eq35.true

pub returns-then-b-eq35 : goal.returns-then-b-eq35
returns-then-b-eq35 c = search number_based

pub pointed_at-requires : goal.pointed_at-requires
pointed_at-requires c = number_asks _ _ _ c.run_length-n.ensures c.byte_or-b.ensures 45 c.if-b-eq46.true

pub returns-then-b-eq46 : goal.returns-then-b-eq46
returns-then-b-eq46 c = search number_pointed

pub slice_bounds-exponent_length-count : goal.slice_bounds-exponent_length-count
slice_bounds-exponent_length-count c = omega (arith, run_le (Below 10) c.args.s.now, c.run_length-n.ensures)

pub slice_bounds-exponent_length-start : goal.slice_bounds-exponent_length-start
slice_bounds-exponent_length-start c = omega (arith, run_le (Below 10) c.args.s.now, c.run_length-n.ensures)

pub overflow_add-result : goal.overflow_add-result
overflow_add-result c = let s = c.args.s.now in
    omega (arith, exponent_fits false s c.run_length-n.result c.exponent_length.result (omega (arith, run_le (Below 10) s, c.run_length-n.ensures)) c.exponent_length.ensures)

pub returns : goal.returns
returns c = search number_plain
