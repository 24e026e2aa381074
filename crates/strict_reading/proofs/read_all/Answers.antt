-- Refusal 2, or what the file answers. Assumes nothing.
use Rattle.strict_reading.proofs.Laws.{all_unreadable, all_file}
use lib.ListN.{length}
use Rattle.strict_reading.proofs.read_all.Goals as goal

pub returns-in-Some : goal.returns-in-Some
returns-in-Some c = let a = c.args in
    let q = all_unreadable a.text.now a.elements.now a.count (length a.tree.now) _ c.first_unreadable.ensures _ _ _ c.in-Some.is c.clear.ensures c.clear-in-Some.ensures in
    record { value = q.0; elements_after = q.1.0; tree_after = q.1.1 }

pub returns-in-None : goal.returns-in-None
returns-in-None c = let a = c.args in
    let q = all_file a.text.now a.elements.now a.count (length a.tree.now) _ c.first_unreadable.ensures _ _ _ c.in-None.is c.read_file.ensures.value c.read_file.ensures.elements_after c.read_file.ensures.tree_after in
    record { value = q.0; elements_after = q.1.0; tree_after = q.1.1 }
