-- What reading answers, and what follows of it; each way has its law. Assumes nothing.
use native.Mathlib.Omega.{arith}
use lib.ListN.{length}
use Rattle.stored_writing.proofs.Puts.{cleared_all}
use Rattle.storing_again.proofs.Whole.{way_refused, asked, way_short, way_stored}
use Rattle.storing_again.proofs.store_again.Goals as goal

pub returns-then-room-bytes : goal.returns-then-room-bytes
returns-then-room-bytes c = let a = c.args in
    let o = length a.out.now in
    let g = c.in_ok-table in
    way_short a.bytes.now (length a.items.now) o c.read_stored.result _ c.read_stored.ensures g.table.name g.table.length g.table.items g.was _ _ c.if-room-bytes.true c.clear.ensures (cleared_all a.out.now _ c.clear_from.ensures)

pub put_table-requires : goal.put_table-requires
put_table-requires c = let a = c.args in
    let o = length a.out.now in
    let g = c.in_ok-table in
    asked a.bytes.now (length a.items.now) o c.read_stored.result _ c.read_stored.ensures g.table.name g.table.length g.table.items g.was

pub returns-in_err-table : goal.returns-in_err-table
returns-in_err-table c = let a = c.args in
    way_refused a.bytes.now (length a.items.now) (length a.out.now) c.read_stored.result _ c.read_stored.ensures _ c.from_residual.result _ c.in_err-table.was c.from_residual.ensures.1 (cleared_all a.out.now _ c.clear_from.ensures)

pub returns : goal.returns
returns c = let a = c.args in
    let o = length a.out.now in
    let g = c.in_ok-table in
    way_stored a.bytes.now (length a.items.now) o c.read_stored.result _ c.read_stored.ensures g.table.name g.table.length g.table.items g.was c.put_table.result _ _ (omega arith) (cleared_all a.out.now _ c.clear_from.ensures) c.put_table.ensures
