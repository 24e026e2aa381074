-- The invariant: from row k on, each row's outcome is done. Assumes nothing.
use mathlib.Core.Path.{◌∙◌}
use native.Mathlib.Omega.{arith}
use Prim.Native.Nat.{◌-◌}
use Rattle.expressions.proofs.Turns.{done_start, done_turn}
use Rattle.expressions.proofs.fold_rows.Goals as goal

pub loop-k-init : goal.loop-k-init
loop-k-init c = search done_start

pub loop-k-preserved : goal.loop-k-preserved
loop-k-preserved c = let a = c.args in
    done_turn a.text.now a.elements.now a.items.now a.links.now a.i _ a.rows.now c.loop-k.outs c.loop-k.k (c.loop-k.k - 1) _ _ _ (omega arith) c.loop-k.invariant (omega arith) (omega arith) c.outcome_at-x.ensures _ c.right_of.ensures c.outcome_at-y.ensures c.row_outcome.ensures

pub returns : goal.returns
returns c = c.outcome_at.ensures ∙ c.loop-k.invariant 0 (omega arith)
