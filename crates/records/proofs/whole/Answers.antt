-- The counts after the first are all 0. Assumes nothing.
use Rattle.std.proofs.Common.{◌≡◌, ◌∙◌, sym, ap, ◌-◌, length, take, drop, rules}
use lib.Dec.{eqb}
use lib.ListN.{length-drop}
use lib.Seq.{take-length}
use borrow.Author.Tests.{tests}
use Rattle.std.proofs.lemmas.Iterator.{YieldsList-from_slice}
use Rattle.std.proofs.lemmas.Iterator.Search.{all_from_yields_List}
use Rattle.std.specs.List.{list_all}
use Rattle.states.specs.States.{states}
use Rattle.records.specs.Frames.{whole_of}
use Rattle.records.proofs.Laws.{none_all}
use Rattle.records.proofs.whole.Goals as goal

pub returns-then-frame : goal.returns-then-frame
unfolding whole_of
returns-then-frame c =
    let counts = c.args.t.counts in
    let eleven : length counts ≡ states = search rules in
    let rest : take (length counts - 1) (drop 1 counts) ≡ drop 1 counts = ap (λ n. take n (drop 1 counts)) (sym (length-drop 1 counts)) ∙ take-length (drop 1 counts) in
    let all : c.all.result ≡ list_all (λ x. eqb x 0) (drop 1 counts) =
    all_from_yields_List (λ x. eqb x 0) _ _ c.all.result c.all.ensures.ran (YieldsList-from_slice (drop 1 counts) (c.iter.ensures.rest ∙ rest)) (λ x b q k. search (rules, tests)) in
    rw c.if-frame.true (all ∙ sym (none_all counts 1 (states - 1) eleven))

pub returns-else-frame : goal.returns-else-frame
unfolding whole_of
returns-else-frame c = rw c.if-frame.false
