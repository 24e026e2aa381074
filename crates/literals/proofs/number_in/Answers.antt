-- A number too large already, or one with its exponent. Assumes nothing.
use native.Mathlib.Omega.{arith}
use Rattle.literals.proofs.Laws.{number_over, number_whole, run_fits}
use lib.ListN.{length}
use Prim.Native.Nat.{◌≤◌}
use Rattle.literals.proofs.number_in.Goals as goal

pub returns-then-m-gt-LARGEST : goal.returns-then-m-gt-LARGEST
returns-then-m-gt-LARGEST c = search number_over

pub overflow_add-n : goal.overflow_add-n
overflow_add-n c = let s = c.args.s.now in
    let h : c.run_length-n.result ≤ length s = search run_fits in
    omega arith

pub returns : goal.returns
returns c = search number_whole
