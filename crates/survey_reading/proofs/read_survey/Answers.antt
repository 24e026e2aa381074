-- The elements read or refused; what follows is the survey of the text. Assumes nothing.
use lib.ListN.{length}
use Rattle.element_reading.proofs.Answers.{permitted_is}
use Rattle.survey_reading.proofs.Joined.{way_read, way_refused}
use Rattle.survey_reading.proofs.Permits.{permits_these}
use Rattle.survey_reading.proofs.read_survey.Goals as goal

pub returns-in-Ok : goal.returns-in-Ok
returns-in-Ok c = let a = c.args in
    let p = permitted_is a.text.now (length a.elements.now) _ _ c.read_elements.ensures in
    permits_these a.text.now (length a.elements.now) (length a.items.now) _ _ _
    (way_read a.text.now (length a.elements.now) (length a.items.now) _ _ _ p.0 p.1 c.in-Ok.is _ _ _ c.survey_pieces.ensures.value c.survey_pieces.ensures.elements_after c.survey_pieces.ensures.after)

pub returns-in-Err : goal.returns-in-Err
returns-in-Err c = let a = c.args in
    let p = permitted_is a.text.now (length a.elements.now) _ _ c.read_elements.ensures in
    permits_these a.text.now (length a.elements.now) (length a.items.now) _ _ _
    (way_refused a.text.now (length a.elements.now) (length a.items.now) _ _ _ _ p.0 p.1 c.in-Err.is c.clear.ensures)
