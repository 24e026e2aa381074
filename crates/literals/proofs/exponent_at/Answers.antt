-- The three ways that an exponent goes. Assumes nothing.
use native.Mathlib.Omega.{arith}
use Rattle.literals.proofs.Laws.{exponent_other, exponent_in, plus_in, exponent_plus, exponent_plain}
use lib.ListN.{length}
use Prim.Native.Nat.{◌<◌, ◌+◌}
use Rattle.literals.proofs.exponent_at.Goals as goal

pub returns-then-lower_case-ne101 : goal.returns-then-lower_case-ne101
returns-then-lower_case-ne101 c = search exponent_other

pub overflow_add-n : goal.overflow_add-n
overflow_add-n c = let s = c.args.s.now in
    let at = c.args.at in
    let h : at < length s = search exponent_in in
    omega arith

pub overflow_add-m : goal.overflow_add-m
overflow_add-m c = let s = c.args.s.now in
    let at = c.args.at in
    let h : at + 1 < length s = search plus_in in
    omega arith

pub slice_bounds-leading_value-count : goal.slice_bounds-leading_value-count
slice_bounds-leading_value-count c = let s = c.args.s.now in
    let at = c.args.at in
    let h : at + 1 < length s = search plus_in in
    omega arith

pub slice_bounds-leading_value-start : goal.slice_bounds-leading_value-start
slice_bounds-leading_value-start c = let s = c.args.s.now in
    let at = c.args.at in
    let h : at + 1 < length s = search plus_in in
    omega arith

pub returns-then-byte_or-eq43 : goal.returns-then-byte_or-eq43
returns-then-byte_or-eq43 c = search exponent_plus

pub slice_bounds-leading_value-count-2 : goal.slice_bounds-leading_value-count-2
slice_bounds-leading_value-count-2 c = let s = c.args.s.now in
    let at = c.args.at in
    let h : at < length s = search exponent_in in
    omega arith

pub slice_bounds-leading_value-start-2 : goal.slice_bounds-leading_value-start-2
slice_bounds-leading_value-start-2 c = let s = c.args.s.now in
    let at = c.args.at in
    let h : at < length s = search exponent_in in
    omega arith

pub returns : goal.returns
returns c = search exponent_plain
