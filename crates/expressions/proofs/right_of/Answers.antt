-- After the left operand's subtree, or past the last row. Assumes nothing.
use borrow.Author.Rules.{rules}
use Rattle.expressions.specs.Folds.{right_of}
use Rattle.expressions.proofs.right_of.Goals as goal

pub returns-then-left-n : goal.returns-then-left-n
unfolding right_of
returns-then-left-n c = search rules

pub returns-else-left-n : goal.returns-else-left-n
unfolding right_of
returns-else-left-n c = search rules
