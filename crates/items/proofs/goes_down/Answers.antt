-- The invariant: the kinds left say whether the word stands in the piece. Assumes nothing.
use Rattle.items.proofs.Laws.{down_start, down_hit, down_turn, down_end}
use Rattle.items.proofs.goes_down.Goals as goal

pub loop-m-init : goal.loop-m-init
loop-m-init c = search down_start

pub returns-then-kind_of-eq-WORD_DOWNTO : goal.returns-then-kind_of-eq-WORD_DOWNTO
returns-then-kind_of-eq-WORD_DOWNTO c = search down_hit

pub loop-m-preserved : goal.loop-m-preserved
loop-m-preserved c =
    down_turn _ _ _ _ _ _ c.loop-m.invariant _ _ _ _ c.loop-m-test.true c.rows_in-n.ensures
    c.saturating_sub.ensures c.min-most.ensures c.kind_of.ensures c.if-kind_of-eq-WORD_DOWNTO.false

pub returns : goal.returns
returns c = search down_end
