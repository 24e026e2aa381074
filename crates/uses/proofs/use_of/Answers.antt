-- The language's name or an own one, claimed above or not. Assumes nothing.
use Rattle.uses.proofs.Laws.{claimed_too, of_language, no_claim, above, below}
use Rattle.uses.proofs.use_of.Goals as goal

pub returns-then-link-ne0 : goal.returns-then-link-ne0
returns-then-link-ne0 c = search claimed_too

pub returns-then-language-ne0 : goal.returns-then-language-ne0
returns-then-language-ne0 c = search of_language

pub returns-then-link-eq0 : goal.returns-then-link-eq0
returns-then-link-eq0 c = search no_claim

pub returns-then-j-i : goal.returns-then-j-i
returns-then-j-i c = search above

pub returns : goal.returns
returns c = search below
