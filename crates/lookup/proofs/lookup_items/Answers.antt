-- The first item that passes the test is the first that claims the name. Assumes nothing.
use Rattle.std.proofs.Common.{◌≡◌, true, false, rules}
use borrow.Author.Tests.{tests}
use Rattle.std.proofs.lemmas.Iterator.{IsFirst-from_position, YieldsList-from_slice}
use Rattle.lookup.specs.Structs.{claims_by}
use Rattle.lookup.proofs.Structs.{finds_items}
use Rattle.lookup.proofs.lookup_items.Goals as goal

pub returns : goal.returns
returns c =
    let claimed = claims_by c.args.text.now c.args.elements.now c.args.name.now in
    finds_items _ _ _ _ _ (IsFirst-from_position _ _ _ (λ x. claimed x ≡ true) (λ x. claimed x ≡ false) c.position.ensures.ran (YieldsList-from_slice c.args.items.now cc) (λ x q k. search (rules, tests)) (λ x q k. search (rules, tests)))
