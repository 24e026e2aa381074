-- In the piece and the table, or after the table's last. Assumes nothing.
use borrow.Author.Rules.{rules}
use borrow.Author.Tests.{lt-ltb, le-ltb}
use Rattle.expressions.specs.Folds.{element_in}
use Rattle.expressions.proofs.element_in.Goals as goal

pub returns-then-at-min : goal.returns-then-at-min
unfolding element_in
returns-then-at-min c = search (rules, lt-ltb)

pub returns-else-at-min : goal.returns-else-at-min
unfolding element_in
returns-else-at-min c = search (rules, le-ltb)
