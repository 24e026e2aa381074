-- Zeros first, then the rows of each piece. Assumes nothing.
use native.Mathlib.Omega.{arith}
use lib.ListN.{length}
use Rattle.tree.proofs.Written.{all_rows}
use Rattle.tree.proofs.read_items.Goals as goal

pub returns : goal.returns
returns c = all_rows c.args.elements.now c.args.count c.min-n.result (length c.args.rows.now) (length c.clear.new.t) c.clear.auto.t (omega arith) c.read_pieces.new.rows c.read_pieces.ensures
