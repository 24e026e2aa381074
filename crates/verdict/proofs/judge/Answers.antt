-- `verdict::judge` meets its contract. The verdict on the rows left, with what was passed, is the whole. Assumes nothing.
use native.Mathlib.Omega.{arith}
use Rattle.verdict.proofs.Laws.{all_left, all_passed, first_fails, goes_on_lem}
use Rattle.verdict.proofs.judge.Goals as goal

pub loop-i-init : goal.loop-i-init
loop-i-init c = all_left c.args.tree.now c.args.rows

pub returns-then-fails : goal.returns-then-fails
returns-then-fails c = first_fails c.args.tree.now c.args.rows c.loop-i.before c.loop-i.i c.loop-i.invariant c.fails.result (omega arith) c.fails.ensures c.if-fails.true

pub loop-i-preserved : goal.loop-i-preserved
loop-i-preserved c = goes_on_lem c.args.tree.now c.args.rows c.loop-i.before c.loop-i.i c.loop-i.invariant c.fails.result (omega arith) c.fails.ensures c.if-fails.false

pub returns : goal.returns
returns c = all_passed c.args.tree.now c.args.rows c.loop-i.before c.loop-i.i c.loop-i.invariant (omega arith)
