-- A letter of upper case, or any other byte, by the two tests. Assumes nothing.
use borrow.Author.Tests.{le-leb, lt-leb}
use Rattle.classes.specs.Bytes.{lower}
use Rattle.classes.proofs.lower_case.Goals as goal

pub returns-then-b-le90 : goal.returns-then-b-le90
unfolding lower
returns-then-b-le90 c = simp (le-leb _ _ c.if-b-ge65.true, le-leb _ _ c.if-b-le90.true)

pub returns-else-b-le90 : goal.returns-else-b-le90
unfolding lower
returns-else-b-le90 c = simp (le-leb _ _ c.if-b-ge65.true, lt-leb _ _ c.if-b-le90.false)

pub returns-else-b-ge65 : goal.returns-else-b-ge65
unfolding lower
returns-else-b-ge65 c = simp (lt-leb _ _ c.if-b-ge65.false)
