-- The invariant: what was put at the place is the bytes passed. Assumes nothing.
use borrow.Author.Rules.{rules}
use native.Mathlib.Omega.{arith}
use Rattle.puts.proofs.Laws.{one_more, all_of, same_size}
use Rattle.puts.proofs.put_bytes.Goals as goal

pub loop-b-init : goal.loop-b-init
loop-b-init c = λ t h. h

pub loop-b-preserved : goal.loop-b-preserved
loop-b-preserved c = λ t h. one_more c.args.s.now c.loop-b.b-index (omega arith) (c.loop-b.invariant t h) (search rules)

pub shape_of-out : goal.shape_of-out
shape_of-out c = same_size (c.loop-b.invariant _ c.put_none-w.ensures)

pub returns : goal.returns
returns c = all_of _ c.loop-b.b-index (omega arith) (c.loop-b.invariant _ c.put_none-w.ensures)
