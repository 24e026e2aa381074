-- The invariant: the rows counted with those left are the piece's. Assumes nothing.
use Rattle.items.proofs.Laws.{Left}
use Rattle.items.proofs.rows_held.Given as goal

abbrev pub invariant-loop-m : goal.invariant-loop-m
invariant-loop-m l = Left l.rows l.items l.i l.from l.most l.m
