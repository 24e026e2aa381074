-- The four ways that two signs meet, and a remainder of 0. Assumes nothing.
use borrow.Author.Rules.{rules}
use Rattle.integers.specs.Integers.{to_sign}
use Rattle.integers.proofs.signed_as.Goals as goal

pub returns-then-r-b : goal.returns-then-r-b
unfolding to_sign
returns-then-r-b c = search rules

pub returns-else-r-ne0 : goal.returns-else-r-ne0
unfolding to_sign
returns-else-r-ne0 c = search rules
