-- A claim, a twin, a name of the language. Assumes nothing.
use Rattle.items.proofs.Laws.{no_claim, twin_there, by_language}
use Rattle.items.proofs.is_doubled.Goals as goal

pub returns-then-not-is_claim : goal.returns-then-not-is_claim
returns-then-not-is_claim c = search no_claim

pub returns-then-word_at-ne0 : goal.returns-then-word_at-ne0
returns-then-word_at-ne0 c = search twin_there

pub returns : goal.returns
returns c = search by_language
