-- `same_names::agrees` meets its contract. What is left to compare, with what was passed, is the whole comparison. Assumes nothing.
use Rattle.same_names.proofs.Laws.{Same}
use Rattle.same_names.proofs.agrees.Given as goal

abbrev pub invariant-loop-i : goal.invariant-loop-i
invariant-loop-i l = Same l.basic l.s l.a l.b l.n l.i
