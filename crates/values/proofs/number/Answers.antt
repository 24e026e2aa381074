-- The low half is the number itself, or 2^32 more than it. Assumes nothing.
use borrow.Author.Rules.{rules}
use Rattle.values.specs.code.Used.{signed_number}
use Rattle.values.proofs.number.Goals as goal

pub returns : goal.returns
unfolding signed_number
returns c = search rules
