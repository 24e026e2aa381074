-- One law for each answer of the tree. Assumes nothing.
use lib.ListN.{length}
use Rattle.strict_reading.proofs.Laws.{file_read, file_refused}
use Rattle.strict_reading.proofs.read_file.Goals as goal

pub returns-in-Ok : goal.returns-in-Ok
returns-in-Ok c = let a = c.args in
    let q = file_read a.text.now a.elements.now a.count (length a.tree.now) _ _ c.read_tree.ensures.value c.read_tree.ensures.tree_after _ _ c.in-Ok.is c.judge.ensures in
    record { value = q.0; elements_after = q.1.0; tree_after = q.1.1 }

pub returns-in-Err : goal.returns-in-Err
returns-in-Err c = let a = c.args in
    let q = file_refused a.text.now a.elements.now a.count (length a.tree.now) _ _ c.read_tree.ensures.value c.read_tree.ensures.tree_after _ _ c.in-Err.is c.clear.ensures in
    record { value = q.0; elements_after = q.1.0; tree_after = q.1.1 }
