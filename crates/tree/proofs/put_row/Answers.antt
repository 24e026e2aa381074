-- `tree::put_row` meets its contract. Five words stored, one link set, one head set. Assumes nothing.
use native.Mathlib.Omega.{arith}
use mathlib.Core.Path.{refl}
use Prim.Native.Nat.{◌*◌}
use lib.ListN.{length-set}
use Rattle.tree.proofs.Lists.{five_stored}
use Rattle.tree.proofs.put_row.Goals as goal

pub bounds-cells-at-2 : goal.bounds-cells-at-2
bounds-cells-at-2 c = simp length-set (omega arith)

pub bounds-cells-at-3 : goal.bounds-cells-at-3
bounds-cells-at-3 c = simp length-set (omega arith)

pub bounds-cells-at-4 : goal.bounds-cells-at-4
bounds-cells-at-4 c = simp length-set (omega arith)

pub bounds-cells-at-5 : goal.bounds-cells-at-5
bounds-cells-at-5 c = simp length-set (omega arith)

pub bounds-heads-used : goal.bounds-heads-used
bounds-heads-used c = simp length-set (omega arith)

pub returns : goal.returns
returns c = (five_stored c.args.cells.now (5 * c.args.used) c.args.form c.args.first c.args.count c.args.rows c.args.operator, refl, refl)
