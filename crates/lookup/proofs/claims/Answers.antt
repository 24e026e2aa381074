-- A claim, and its name. Assumes nothing.
use mathlib.Core.Path.{◌∙◌}
use Rattle.lookup.proofs.Laws.{claims_so, claims_not}
use Rattle.lookup.proofs.claims.Goals as goal

pub returns-then-is_claim : goal.returns-then-is_claim
returns-then-is_claim c = search claims_so

pub returns-else-is_claim : goal.returns-else-is_claim
returns-else-is_claim c = c.if-is_claim.false ∙ search claims_not
