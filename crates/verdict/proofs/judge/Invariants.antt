-- `verdict::judge` meets its contract. The verdict on the rows left, with what was passed, is the whole. Assumes nothing.
use Rattle.verdict.proofs.Laws.{Whole}
use Rattle.verdict.proofs.judge.Given as goal

abbrev pub invariant-loop-i : goal.invariant-loop-i
invariant-loop-i l = Whole l.tree l.rows l.before l.i
