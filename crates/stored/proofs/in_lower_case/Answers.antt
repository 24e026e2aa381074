-- Every byte is tested. Assumes nothing.
use mathlib.Core.Path.{◌∙◌}
use lib.Dec.{eqb}
use borrow.Author.Rules.{rules}
use borrow.Author.Tests.{tests}
use Rattle.std.proofs.lemmas.Iterator.{YieldsList-from_slice}
use Rattle.std.proofs.lemmas.Iterator.Search.{all_from_yields_List}
use Rattle.classes.specs.Bytes.{lower}
use Rattle.stored.proofs.Names.{lower_all}
use Rattle.stored.proofs.in_lower_case.Goals as goal

pub returns : goal.returns
returns c =
    all_from_yields_List (λ b. eqb (lower b) b) _ _ _ c.all.ensures.ran (YieldsList-from_slice c.args.s.now cc) (λ x b q k. search (rules, tests)) ∙ lower_all c.args.s.now
