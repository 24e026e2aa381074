-- The invariant: the counts so far, with those of the records left, are those of all. Assumes nothing.
use native.Mathlib.Omega.{arith}
use Rattle.records.proofs.Counting.{none_yet, after_add, after_pass, all_counted}
use Prim.Native.Nat.{◌-◌, ◌<◌}
use Rattle.records.proofs.tallied.Goals as goal
use Rattle.records.proofs.tallied.Goals.{then-s, else-s}

pub loop-i-init : goal.loop-i-init
loop-i-init c = none_yet _ _

pub overflow_add-t : goal.overflow_add-t
overflow_add-t c = omega (arith, (c.loop-i.invariant.1 c.state-s.result c.if-s.true).1)

pub loop-i-preserved : goal.loop-i-preserved
loop-i-preserved c = let s = c.args in
    let st = c.state-s in
    let h : c.loop-i.i < s.n = omega arith in
    elim c.if-s.branch [
      | then-s w ↦ rw w.t-is (after_add s.items.now s.n c.loop-i.i st.result c.loop-i.t.counts h st.ensures c.loop-i.invariant w.if-s.true)
      | else-s w ↦ rw w.t-is (after_pass s.items.now s.n c.loop-i.i st.result c.loop-i.t.counts h st.ensures c.loop-i.invariant w.if-s.false)
    ]

pub returns : goal.returns
returns c = all_counted _ _ c.loop-i.i c.loop-i.t c.loop-i-test.false c.loop-i.invariant
