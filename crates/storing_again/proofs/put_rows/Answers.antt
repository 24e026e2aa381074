-- The invariant: what was put at the place is the fields of the rows passed. Assumes nothing.
use borrow.Author.Rules.{rules}
use native.Mathlib.Omega.{arith}
use Rattle.puts.proofs.Laws.{same_size}
use Rattle.storing_again.proofs.Puts.{rows_none, rows_more, rows_all}
use Rattle.storing_again.proofs.put_rows.Goals as goal

pub loop-i-init : goal.loop-i-init
loop-i-init c = λ t h. rows_none _ _ h

pub loop-i-preserved : goal.loop-i-preserved
loop-i-preserved c = λ t h. rows_more _ _ _ _ c.words_from.ensures (c.loop-i.invariant t h) (search rules)

pub shape_of-out : goal.shape_of-out
shape_of-out c = same_size (c.loop-i.invariant _ c.put_none-w.ensures)

pub returns : goal.returns
returns c = rows_all _ _ _ _ (omega arith) (c.loop-i.invariant _ c.put_none-w.ensures)
