-- The head, the value and the name. Assumes nothing.
use native.Mathlib.Omega.{arith}
use Rattle.stored_writing.proofs.Puts.{small_size, item_size}
use Rattle.stored_writing.proofs.item_size.Goals as goal

pub overflow_add-body : goal.overflow_add-body
overflow_add-body c = let s = small_size c.args.v _ c.value_size-k.ensures in omega arith

pub overflow_add-result : goal.overflow_add-result
overflow_add-result c = let s = small_size c.args.v _ c.value_size-k.ensures in omega arith

pub returns : goal.returns
returns c = search item_size
