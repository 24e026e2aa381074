-- `same_names::agrees` meets its contract. What is left to compare, with what was passed, is the whole comparison. Assumes nothing.
use native.Mathlib.Omega.{arith}
use Rattle.same_names.proofs.Laws.{agree_start, agree_more, agree_not, agree_end}
use Rattle.same_names.proofs.agrees.Goals as goal

pub loop-i-init : goal.loop-i-init
loop-i-init c = agree_start c.args.basic c.args.s.now c.args.x.0 c.args.y.0 c.args.n

pub returns-then-p-q : goal.returns-then-p-q
returns-then-p-q c = agree_not c.args.basic c.args.s.now c.args.x.0 c.args.y.0 c.args.n c.loop-i.i _ _ c.loop-i.invariant c.loop-i-test.true c.counted-p.ensures c.counted-q.ensures c.if-p-q.true

pub loop-i-preserved : goal.loop-i-preserved
loop-i-preserved c = agree_more c.args.basic c.args.s.now c.args.x.0 c.args.y.0 c.args.n c.loop-i.i _ _ c.loop-i.invariant c.loop-i-test.true c.counted-p.ensures c.counted-q.ensures c.if-p-q.false

pub returns : goal.returns
returns c = agree_end c.args.basic c.args.s.now c.args.x.0 c.args.y.0 c.args.n c.loop-i.i c.loop-i.invariant (omega arith)
