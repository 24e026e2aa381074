-- Where the piece is one that is read, what the scan found decides the rows, by the laws of Pieces. Assumes nothing.
use native.Mathlib.Omega.{arith}
use Rattle.tree.proofs.Pieces.{start_of_first, piece_unread, piece_asks, piece_written, piece_refused}
use Rattle.tree.proofs.read_piece.Goals as goal

pub returns-in_default : goal.returns-in_default
returns-in_default c = piece_unread c.args.size c.args.elements.now c.requires.0 (start_of_first _ _ _ (omega arith) c.in_default.ensures c.kind_of.ensures) c.args.rows.now

pub returns-in_default-scan : goal.returns-in_default-scan
returns-in_default-scan c = piece_refused c.args.size c.args.elements.now c.requires.0 c.in-Some.from (start_of_first _ _ _ (omega arith) c.in-Some.ensures c.kind_of.ensures) c.scan.new.machine.cells c.scan.new.machine.next c.scan.new.machine.heads _ _ c.args.rows.now c.in_default-scan.ensures

pub write_out-requires : goal.write_out-requires
write_out-requires c = let w = piece_asks c.args.size c.args.elements.now c.requires.0 c.in-Some.from (start_of_first _ _ _ (omega arith) c.in-Some.ensures c.kind_of.ensures) c.scan.new.machine.cells c.scan.new.machine.next c.scan.new.machine.heads _ _ c.in-Ok.ensures in
    let u = w.1 in
    let ks = c.requires.2 in
    let kr = c.requires.3 in
    (w.0, omega arith, omega arith, omega arith, omega arith, omega arith, w.2)

pub returns : goal.returns
returns c = piece_written c.args.size c.args.elements.now c.requires.0 c.in-Some.from (start_of_first _ _ _ (omega arith) c.in-Some.ensures c.kind_of.ensures) c.scan.new.machine.cells c.scan.new.machine.next c.scan.new.machine.heads _ _ c.args.rows.now c.write_out.new.tab c.in-Ok.ensures c.write_out.ensures
