-- Few rows or many. Assumes nothing.
use borrow.Author.Rules.{rules}
use Rattle.expressions.proofs.Turns.{folded_whole}
use Rattle.expressions.proofs.fold.Goals as goal

pub returns-then-n-le-FEW : goal.returns-then-n-le-FEW
returns-then-n-le-FEW c = search (rules, folded_whole)

pub returns : goal.returns
returns c = search (rules, folded_whole)
