-- The invariant: from row k on, each row's outcome is done. Assumes nothing.
use Rattle.expressions.proofs.Turns.{Done}
use Rattle.expressions.proofs.fold_rows.Given as goal

abbrev pub invariant-loop-k : goal.invariant-loop-k
invariant-loop-k l = Done l.text l.elements l.items l.links l.i l.n l.rows l.outs l.k
