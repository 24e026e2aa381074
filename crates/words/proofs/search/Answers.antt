-- The invariant: the search from here, in the rest of the list, is the search in the whole. Assumes nothing.
use Rattle.words.proofs.Laws.{search_hit, search_past, search_end}
use native.Mathlib.Omega.{arith}
use mathlib.Core.Path.{refl}
use Rattle.words.proofs.search.Goals as goal

pub loop-i-init : goal.loop-i-init
loop-i-init c = (omega arith, refl)

pub overflow_cast-n : goal.overflow_cast-n
overflow_cast-n c = omega (arith, c.type_inv.list c.loop-i.i)

pub returns-then-entry_is : goal.returns-then-entry_is
returns-then-entry_is c = search search_hit

pub overflow_add-i : goal.overflow_add-i
overflow_add-i c = omega (arith, c.type_inv.list c.loop-i.i)

pub loop-i-preserved : goal.loop-i-preserved
loop-i-preserved c = (omega arith, search search_past)

pub returns : goal.returns
returns c = search search_end
