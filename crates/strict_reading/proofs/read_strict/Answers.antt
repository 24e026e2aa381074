-- Refusals 1, 3 and 4, or what the elements answer. Assumes nothing.
use Rattle.strict_reading.proofs.Laws.{strict_read, strict_refused}
use Rattle.strict_reading.proofs.Promises.{permitted_by}
use Rattle.element_reading.proofs.Answers.{permitted_is, read_room}
use lib.ListN.{length}
use Rattle.strict_reading.proofs.read_strict.Goals as goal

pub read_all-requires : goal.read_all-requires
read_all-requires c = let a = c.args in
    let p = permitted_is a.text.now (length a.elements.now) _ _ c.read_elements.ensures in
    read_room a.text.now (length a.elements.now) _ _ _ p.0 p.1 c.in-Ok.is

pub returns-in-Ok : goal.returns-in-Ok
returns-in-Ok c = let a = c.args in
    let p = permitted_is a.text.now (length a.elements.now) _ _ c.read_elements.ensures in
    permitted_by a.text.now (length a.elements.now) (length a.tree.now) _ _ _
    (strict_read a.text.now (length a.elements.now) (length a.tree.now) _ _ p.0 p.1 _ _ _ _ c.in-Ok.is c.read_all.ensures.value c.read_all.ensures.elements_after c.read_all.ensures.tree_after)

pub returns-in-Err : goal.returns-in-Err
returns-in-Err c = let a = c.args in
    let p = permitted_is a.text.now (length a.elements.now) _ _ c.read_elements.ensures in
    permitted_by a.text.now (length a.elements.now) (length a.tree.now) _ _ _
    (strict_refused a.text.now (length a.elements.now) (length a.tree.now) _ _ p.0 p.1 _ _ c.in-Err.is c.clear.ensures)
