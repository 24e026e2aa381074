-- A claim's name, by the links or by the chains, or none. Assumes nothing.
use Rattle.names.proofs.Owning.{own_claim, own_linked, own_none}
use Rattle.names.proofs.own_link.Goals as goal

pub returns-then-e-min : goal.returns-then-e-min
returns-then-e-min c = search own_linked

pub returns-then-is_claim : goal.returns-then-is_claim
returns-then-is_claim c = search own_claim

pub returns : goal.returns
returns c = search own_none
