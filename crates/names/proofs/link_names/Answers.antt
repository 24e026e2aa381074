-- The steps, each handing the next what it ensures. Assumes nothing.
use mathlib.Core.Path.{refl}
use Rattle.names.proofs.Tables.{still_filled}
use Rattle.names.proofs.Whole.{links_whole, records_most, chained_all, owns_firsts, owns_whole, answer_whole, twins_whole}
use Rattle.names.proofs.link_names.Goals as goal

pub invariant_of-chains : goal.invariant_of-chains
invariant_of-chains c = record { chained = chained_all _ _ c.min-n.ensures _ _ _ c.chain_names.ensures }

pub own_links-requires : goal.own_links-requires
own_links-requires c = (records_most c.args.items.now _ c.min-n.ensures, refl, still_filled _ _ _ _ c.write_links.ensures)

pub find_twins-any-requires : goal.find_twins-any-requires
find_twins-any-requires c = (records_most c.args.items.now _ c.min-n.ensures, owns_firsts c.args.items.now _ c.min-n.ensures _ _ c.own_links.new.own c.own_links.ensures, refl)

pub write_words-requires-2 : goal.write_words-requires-2
write_words-requires-2 c = records_most c.args.items.now _ c.min-n.ensures

pub returns : goal.returns
returns c = let s = c.args in
    let n = c.min-n in
    let w = c.own_links in
    let m = c.find_twins-any in
    record {
      value = answer_whole s.items.now _ n.ensures _ _ w.new.own w.ensures _ _ m.ensures;
      links_after = links_whole _ s.elements.now _ _ _ _ _ _ c.rows_in.ensures c.min-rows.ensures c.write_links.ensures;
      owns_after = owns_whole s.items.now _ n.ensures _ _ w.new.own w.ensures _ _ c.write_words.ensures;
      twins_after = twins_whole s.items.now _ n.ensures _ _ w.new.own w.ensures _ _ m.ensures _ _ c.write_words-2.ensures;
    }
