-- The invariant: what was put at the place is the bytes passed, as they are stored. Assumes nothing.
use native.Mathlib.Omega.{arith}
use Rattle.puts.proofs.Laws.{same_size}
use Rattle.stored_writing.specs.Written.{as_stored}
use Rattle.stored_writing.proofs.Puts.{byte_more, name_all}
use Rattle.stored_writing.proofs.put_name.Goals as goal

pub loop-b-init : goal.loop-b-init
unfolding as_stored
loop-b-init c = λ t h. h

pub loop-b-preserved : goal.loop-b-preserved
loop-b-preserved c = λ t h. byte_more _ _ _ _ c.loop-b-test.true c.counted.ensures (c.loop-b.invariant t h) c.put_byte-w.ensures

pub shape_of-out : goal.shape_of-out
shape_of-out c = same_size (c.loop-b.invariant _ c.put_none-w.ensures)

pub returns : goal.returns
returns c = name_all _ _ c.loop-b.b-index (omega arith) (c.loop-b.invariant _ c.put_none-w.ensures)
