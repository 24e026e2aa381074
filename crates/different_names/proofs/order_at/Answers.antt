-- The library's order of two slices is that of the names. Assumes nothing.
use mathlib.Core.Path.{◌∙◌}
use Rattle.different_names.proofs.Orders.{order_cmp}
use Rattle.different_names.proofs.order_at.Goals as goal

pub returns : goal.returns
returns c = rw (← c.name_of-a.ensures, ← c.name_of-b.ensures) (c.cmp.ensures ∙ order_cmp _ _)
