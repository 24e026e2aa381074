-- The numbers within the size, and those beyond it. Assumes nothing.
use borrow.Author.Rules.{rules}
use Rattle.integers.specs.Integers.{sized_of}
use Rattle.integers.proofs.sized.Goals as goal

pub returns-then-contains : goal.returns-then-contains
unfolding sized_of
returns-then-contains c = search rules

pub returns-else-contains : goal.returns-else-contains
unfolding sized_of
returns-else-contains c = search rules
