-- The invariant: the kinds left say whether the word stands in the piece. Assumes nothing.
use Rattle.items.proofs.Laws.{Down}
use Rattle.items.proofs.goes_down.Given as goal

abbrev pub invariant-loop-m : goal.invariant-loop-m
invariant-loop-m l = Down l.elements l.items l.i l.from l.most l.m
