-- Links, records, pair, in this order, once the rows are there. Assumes nothing.
use mathlib.Core.Path.{refl}
use lib.ListN.{length-replicate}
use Prim.Native.Nat.{ℕ}
use Rattle.survey_reading.proofs.Laws.{completes, surveys}
use Rattle.survey_reading.proofs.survey_rows.Goals as goal

pub returns : goal.returns
returns c = let a = c.args in
    record {
      value = surveys a.text.now a.elements.now a.items.now _ _ _ _ _ a.count a.n _ _ _ _ _ _ _ refl (length-replicate {A = ℕ} 8192 0) (length-replicate {A = ℕ} 1024 0) (length-replicate {A = ℕ} 1024 0) c.requires c.link_names-any.ensures.value c.link_names-any.ensures.links_after c.link_names-any.ensures.owns_after c.link_names-any.ensures.twins_after c.complete_items.ensures c.pair_of-pair.ensures c.summed.ensures;
      after = completes a.text.now a.elements.now a.items.now _ _ _ _ _ a.count a.n _ _ _ _ c.link_names-any.result c.pair_of-pair.result c.summed.result refl (length-replicate {A = ℕ} 8192 0) (length-replicate {A = ℕ} 1024 0) (length-replicate {A = ℕ} 1024 0) c.requires c.link_names-any.ensures.value c.link_names-any.ensures.links_after c.link_names-any.ensures.owns_after c.link_names-any.ensures.twins_after c.complete_items.ensures;
    }
