-- The four ways that a literal goes. Assumes nothing.
use native.Mathlib.Omega.{arith}
use Rattle.literals.proofs.Laws.{literal_plain, literal_in_lem, literal_small, literal_large, literal_based}
use lib.ListN.{length}
use Prim.Native.Nat.{◌<◌}
use Rattle.literals.proofs.literal.Goals as goal

pub returns-then-byte_or-ne35 : goal.returns-then-byte_or-ne35
returns-then-byte_or-ne35 c = search literal_plain

pub returns-then-base-lt-LEAST_BASE : goal.returns-then-base-lt-LEAST_BASE
returns-then-base-lt-LEAST_BASE c = search literal_small

pub returns-then-base-gt-GREATEST_BASE : goal.returns-then-base-gt-GREATEST_BASE
returns-then-base-gt-GREATEST_BASE c = search literal_large

pub overflow_add-m : goal.overflow_add-m
overflow_add-m c = let h : c.run_length-n.result < length c.args.s.now = search literal_in_lem in
    omega arith

pub slice_bounds-number_in-count : goal.slice_bounds-number_in-count
slice_bounds-number_in-count c = let h : c.run_length-n.result < length c.args.s.now = search literal_in_lem in
    omega arith

pub slice_bounds-number_in-start : goal.slice_bounds-number_in-start
slice_bounds-number_in-start c = let h : c.run_length-n.result < length c.args.s.now = search literal_in_lem in
    omega arith

pub returns : goal.returns
returns c = search literal_based
