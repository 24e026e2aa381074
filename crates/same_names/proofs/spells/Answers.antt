-- The invariant: what the bytes left say, all say. Assumes nothing.
use borrow.Author.Rules.{rules}
use native.Mathlib.Omega.{arith}
use Rattle.same_names.proofs.Spelling.{unlike, byte_differs, byte_turn, bytes_end}
use mathlib.Core.Path.{refl}
use Rattle.same_names.proofs.spells.Goals as goal

pub returns-then-a-b : goal.returns-then-a-b
returns-then-a-b c = search unlike

pub loop-i-init : goal.loop-i-init
loop-i-init c = (search rules, refl)

pub returns-then-x-y : goal.returns-then-x-y
returns-then-x-y c = let s = c.args in
    byte_differs s.basic s.a.now s.b.now c.loop-i.i _ c.loop-i.invariant.1 (omega arith) c.loop-i.invariant.0 _ _ c.counted-x.ensures c.counted-y.ensures c.if-x-y.true

pub loop-i-preserved : goal.loop-i-preserved
loop-i-preserved c = let s = c.args in
    (c.loop-i.invariant.0, byte_turn s.basic s.a.now s.b.now c.loop-i.i _ c.loop-i.invariant.1 (omega arith) c.loop-i.invariant.0 _ _ c.counted-x.ensures c.counted-y.ensures c.if-x-y.false)

pub returns : goal.returns
returns c = search bytes_end
