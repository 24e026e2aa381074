-- The invariant: what was passed, with the run of the rest, is the run of the whole. Assumes nothing.
use Rattle.classes.proofs.Laws.{turn_on, turn_stop, turn_end}
use Rattle.classes.specs.Runs.{run, goes_on}
use native.Mathlib.Omega.{arith}
use Rattle.classes.proofs.run_length.Goals as goal

pub loop-i-init : goal.loop-i-init
loop-i-init c = omega arith

pub returns-then-not-goes_on : goal.returns-then-not-goes_on
unfolding run
returns-then-not-goes_on c = search turn_stop

pub loop-i-preserved : goal.loop-i-preserved
loop-i-preserved c = search turn_on

pub returns : goal.returns
unfolding run
returns c = omega (arith, turn_end (goes_on c.args.c) c.args.s.now c.loop-i.i (run c.args.c c.args.s.now) c.loop-i.invariant c.loop-i-test.false)
