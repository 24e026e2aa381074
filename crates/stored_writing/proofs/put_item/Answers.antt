-- The head, the value and the name in a row. Assumes nothing.
use native.Mathlib.Omega.{arith}
use Rattle.stored_writing.proofs.Puts.{small_size, item_put}
use Rattle.stored_writing.proofs.put_item.Goals as goal

pub overflow_add-n : goal.overflow_add-n
overflow_add-n c = let s = small_size c.args.v _ c.value_size-k.ensures in omega arith

pub returns : goal.returns
returns c = search item_put
