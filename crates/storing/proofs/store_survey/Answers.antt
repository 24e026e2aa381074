-- The survey, and what follows of it; each way has its law. Assumes nothing.
use native.Mathlib.Omega.{arith}
use lib.ListN.{length}
use Rattle.stored_writing.proofs.Puts.{cleared_all}
use Rattle.storing.proofs.Whole.{way_refused, asked, way_not_whole, way_short, way_stored}
use Rattle.storing.proofs.store_survey.Goals as goal

pub returns-then-not-whole : goal.returns-then-not-whole
returns-then-not-whole c = let a = c.args in
    let e = length a.elements.now in
    let i = length a.items.now in
    let o = length a.out.now in
    way_not_whole a.text.now e i o c.read_survey.result _ _ c.read_survey.ensures c.in_ok-survey.survey c.in_ok-survey.was _ _ _ c.if-not-whole.true c.clear.ensures c.clear-then-not-whole.ensures (cleared_all a.out.now _ c.clear_from.ensures)

pub table_size-size-requires : goal.table_size-size-requires
table_size-size-requires c = let a = c.args in
    let e = length a.elements.now in
    let i = length a.items.now in
    let o = length a.out.now in
    asked a.text.now e i o c.read_survey.result _ _ c.read_survey.ensures c.in_ok-survey.survey c.in_ok-survey.was

pub returns-then-room-size : goal.returns-then-room-size
returns-then-room-size c = let a = c.args in
    let e = length a.elements.now in
    let i = length a.items.now in
    let o = length a.out.now in
    way_short a.text.now e i o c.read_survey.result _ _ c.read_survey.ensures c.in_ok-survey.survey c.in_ok-survey.was c.table_size-size.result _ _ _ c.if-not-whole.false c.table_size-size.ensures c.if-room-size.true c.clear-then-room-size.ensures c.clear-then-room-size-2.ensures (cleared_all a.out.now _ c.clear_from.ensures)

pub returns-in_err-survey : goal.returns-in_err-survey
returns-in_err-survey c = let a = c.args in
    way_refused a.text.now (length a.elements.now) (length a.items.now) (length a.out.now) c.read_survey.result _ _ c.read_survey.ensures _ c.from_residual.result _ c.in_err-survey.was c.from_residual.ensures.1 (cleared_all a.out.now _ c.clear_from.ensures)

pub returns : goal.returns
returns c = let a = c.args in
    let e = length a.elements.now in
    let i = length a.items.now in
    let o = length a.out.now in
    way_stored a.text.now e i o c.read_survey.result _ _ c.read_survey.ensures c.in_ok-survey.survey c.in_ok-survey.was c.table_size-size.result c.put_table.result _ _ c.if-not-whole.false c.table_size-size.ensures (omega arith) (cleared_all a.out.now _ c.clear_from.ensures) c.put_table.ensures
