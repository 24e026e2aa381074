-- A claim, and its name, of an item by value. Assumes nothing.
use mathlib.Core.Path.{sym, ◌∙◌}
use Rattle.lookup.specs.Structs.{claims_by}
use Rattle.lookup.proofs.claims_by.Goals as goal

pub returns-then-is_claim : goal.returns-then-is_claim
unfolding claims_by
returns-then-is_claim c = rw (sym c.is_claim.ensures ∙ c.if-is_claim.true) c.named.ensures

pub returns-else-is_claim : goal.returns-else-is_claim
unfolding claims_by
returns-else-is_claim c = c.if-is_claim.false ∙ rw (sym c.is_claim.ensures ∙ c.if-is_claim.false)
