-- The invariants: what the pieces left say, all say. Assumes nothing.
use mathlib.Core.Path.{refl, sym, ◌∙◌}
use Rattle.pairs.proofs.Turns.{pairs_start, outer_turn, outer_none, inner_none, inner_hit, inner_miss, number_told}
use Rattle.pairs.proofs.first_pair.Goals as goal

pub pairs-init : goal.pairs-init
pairs-init c = (refl, search pairs_start)

pub loop-j-init : goal.loop-j-init
loop-j-init c = (c.pairs.invariant.0, c.pairs.invariant.1 ∙ outer_turn _ _ _ c.pairs-test.true)

pub loop-j-preserved : goal.loop-j-preserved
loop-j-preserved c = (c.loop-j.invariant.0, c.loop-j.invariant.1 ∙ inner_miss _ _ _ _ _ c.loop-j-test.true (number_told _ _ _ _ _ refl c.if-own-owns.false))

pub pairs-preserved : goal.pairs-preserved
pairs-preserved c = (c.loop-j.invariant.0, c.loop-j.invariant.1 ∙ inner_none _ _ _ _ _ c.loop-j-test.false)

pub returns-then-own-owns : goal.returns-then-own-owns
returns-then-own-owns c = sym (c.loop-j.invariant.1 ∙ inner_hit _ _ _ _ _ c.loop-j-test.true (number_told _ _ _ _ _ refl c.if-own-owns.true))

pub returns-after-pairs : goal.returns-after-pairs
returns-after-pairs c = c.pairs.invariant.0 ∙ sym (c.pairs.invariant.1 ∙ outer_none _ _ _ c.pairs-test.false)
