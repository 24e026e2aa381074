-- Marked, too many, or too many for the table. Assumes nothing.
use Rattle.survey_reading.proofs.Laws.{way_done, way_many, way_short}
use Rattle.std.proofs.Common.{◌∙◌, ap}
use Rattle.std.specs.Prelude.{Err}
use lib.ListN.{length}
use Rattle.survey_reading.proofs.survey_pieces.Goals as goal

pub returns-in-Ok : goal.returns-in-Ok
returns-in-Ok c = let a = c.args in
    let w = way_done a.text.now a.elements.now _ a.count (length a.items.now) _ c.record_pieces.ensures.value c.record_pieces.ensures.after _ _ _ c.in-Ok.is c.survey_items.ensures.value c.survey_items.ensures.after in
    record { value = w.0; elements_after = w.1.0; after = w.1.1 }

pub returns-in-Err-TooMany : goal.returns-in-Err-TooMany
returns-in-Err-TooMany c = let a = c.args in
    let w = way_many a.text.now a.elements.now _ a.count (length a.items.now) _ c.record_pieces.ensures.value c.record_pieces.ensures.after _ (c.in-Err-TooMany.is ∙ ap Err c.in-Err-TooMany.field-0-is) c.clear.ensures in
    record { value = w.0; elements_after = w.1.0; after = w.1.1 }

pub returns-in-Err-TableShort : goal.returns-in-Err-TableShort
returns-in-Err-TableShort c = let a = c.args in
    let w = way_short a.text.now a.elements.now _ a.count (length a.items.now) _ c.record_pieces.ensures.value c.record_pieces.ensures.after _ _ (c.in-Err-TableShort.is ∙ ap Err c.in-Err-TableShort.field-0-is) c.clear-in-Err-TableShort.ensures in
    record { value = w.0; elements_after = w.1.0; after = w.1.1 }
