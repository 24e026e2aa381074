-- The invariant: the words of the pieces so far stand, and zeros after them. Assumes nothing.
use mathlib.Core.Path.{refl}
use native.Mathlib.Omega.{arith}
use lib.ListN.{length}
use Rattle.tree.proofs.Written as written
use Rattle.tree.proofs.read_pieces.Goals as goal

pub loop-at-init : goal.loop-at-init
loop-at-init c = (omega arith, refl, written.written_start c.args.n c.args.elements.now c.args.rows.now c.requires.3)

pub read_piece-requires : goal.read_piece-requires
read_piece-requires c = let i = written.turn_inside c.args.n c.args.elements.now c.loop-at.at c.piece_size-size.result (length c.args.rows.now) c.requires.0 c.requires.2 c.loop-at-test.true c.piece_size-size.ensures in
    let b = c.requires.1 in (
      written.turn_some c.args.n c.args.elements.now c.loop-at.at c.piece_size-size.result (length c.args.rows.now) c.requires.0 c.requires.2 c.loop-at-test.true c.piece_size-size.ensures,
      written.turn_part c.args.n c.args.elements.now c.loop-at.at c.piece_size-size.result (length c.args.rows.now) c.requires.0 c.requires.2 c.loop-at-test.true c.piece_size-size.ensures c.rows_from.result.now c.rows_from.ensures,
      omega arith,
      written.turn_room c.args.n c.args.elements.now c.loop-at.at c.piece_size-size.result (length c.args.rows.now) c.requires.0 c.requires.2 c.loop-at-test.true c.piece_size-size.ensures c.loop-at.rows c.loop-at.invariant.1,
      c.requires.4,
    )

pub overflow_add-at : goal.overflow_add-at
overflow_add-at c = omega (arith, written.turn_inside c.args.n c.args.elements.now c.loop-at.at c.piece_size-size.result (length c.args.rows.now) c.requires.0 c.requires.2 c.loop-at-test.true c.piece_size-size.ensures)

pub loop-at-smaller : goal.loop-at-smaller
loop-at-smaller c = written.turn_less c.args.n c.args.elements.now c.loop-at.at c.piece_size-size.result (length c.args.rows.now) c.requires.0 c.requires.2 c.loop-at-test.true c.piece_size-size.ensures

pub loop-at-preserved : goal.loop-at-preserved
loop-at-preserved c = (
  written.turn_inside c.args.n c.args.elements.now c.loop-at.at c.piece_size-size.result (length c.args.rows.now) c.requires.0 c.requires.2 c.loop-at-test.true c.piece_size-size.ensures,
  written.turn_length c.args.n c.args.elements.now c.loop-at.at c.piece_size-size.result (length c.args.rows.now) c.requires.0 c.requires.2 c.loop-at-test.true c.piece_size-size.ensures c.rows_from.result.now c.loop-at.rows c.read_piece.new.rows c.rows_from.ensures c.loop-at.invariant.1 c.loop-at.invariant.2 c.read_piece.ensures,
  written.turn_written c.args.n c.args.elements.now c.loop-at.at c.piece_size-size.result (length c.args.rows.now) c.requires.0 c.requires.2 c.loop-at-test.true c.piece_size-size.ensures c.rows_from.result.now c.loop-at.rows c.read_piece.new.rows c.rows_from.ensures c.loop-at.invariant.1 c.loop-at.invariant.2 c.read_piece.ensures,
)

pub shape_of-rows : goal.shape_of-rows
shape_of-rows c = c.loop-at.invariant.1

pub returns : goal.returns
returns c = written.written_end c.args.n c.args.elements.now c.loop-at.rows (length c.args.rows.now) c.loop-at.at c.loop-at.invariant.0 c.loop-at-test.false c.loop-at.invariant.2
