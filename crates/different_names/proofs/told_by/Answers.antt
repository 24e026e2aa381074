-- The loop: each name passed is above those before it. Assumes nothing.
use native.Mathlib.Omega.{arith}
use Rattle.different_names.proofs.Loops.{told_none, climb_first, climb_on, climb_whole, told_twice}
use Rattle.different_names.proofs.told_by.Goals as goal

pub returns-then-n-eq0 : goal.returns-then-n-eq0
returns-then-n-eq0 c = search told_none

pub loop-i-init : goal.loop-i-init
loop-i-init c = (omega arith, search climb_first)

pub loop-i-preserved : goal.loop-i-preserved
loop-i-preserved c = (omega arith, search climb_on)

pub returns-in-Equal : goal.returns-in-Equal
returns-in-Equal c = search told_twice

pub returns : goal.returns
returns c = climb_whole _ _ _ _ _ _ c.loop-i.invariant.1 (omega arith) (omega arith)
