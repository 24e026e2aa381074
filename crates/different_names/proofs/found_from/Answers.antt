-- The name is compared with each of the others. Assumes nothing.
use mathlib.Core.Path.{refl, ◌∙◌}
use borrow.Author.Rules.{rules}
use borrow.Author.Tests.{tests}
use Rattle.std.proofs.lemmas.Iterator.{YieldsList-from_range}
use Rattle.std.proofs.lemmas.Iterator.Search.{any_from_yields_List}
use Rattle.stored.specs.Stored.{same_bytes}
use Rattle.different_names.specs.StandingNames.{name_at}
use Rattle.different_names.proofs.Loops.{among_range}
use Rattle.different_names.proofs.found_from.Goals as goal

pub returns : goal.returns
returns c =
    rw (← c.name_of-name.ensures)
    (any_from_yields_List (λ j. same_bytes c.name_of-name.result.now (name_at c.args.s.now c.args.firsts.now c.args.sizes.now j)) _ _ _ c.any.ensures.ran (YieldsList-from_range c.args.from c.args.n _ refl refl)
    (λ x b q k. search (rules, tests))
    ∙ among_range _ (name_at c.args.s.now c.args.firsts.now c.args.sizes.now) _ _)
