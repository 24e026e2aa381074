-- The first record that passes the test is the first that claims the name. Assumes nothing.
use Rattle.std.proofs.Common.{◌≡◌, true, false, rules}
use borrow.Author.Tests.{tests}
use Rattle.std.proofs.lemmas.Iterator.{first_from_Range}
use Rattle.lookup.specs.Lookup.{claims_name}
use Rattle.lookup.proofs.Laws.{finds_by}
use Rattle.lookup.proofs.lookup.Goals as goal

pub returns : goal.returns
returns c =
    let claimed = claims_name c.args.text.now c.args.elements.now c.args.name.now c.args.items.now in
    finds_by _ _ _ _ _ (first_from_Range _ _ _ _ (λ i. claimed i ≡ true) (λ i. claimed i ≡ false) c.find.ensures.ran (λ x q k. search (rules, tests)) (λ x q k. search (rules, tests)))
