-- `tree::open_frame` meets its contract. Four words stored. Assumes nothing.
use native.Mathlib.Omega.{arith}
use lib.ListN.{length-set}
use Rattle.tree.proofs.open_frame.Goals as goal

pub bounds-frames-p-2 : goal.bounds-frames-p-2
bounds-frames-p-2 c = simp length-set (omega arith)

pub bounds-frames-p-3 : goal.bounds-frames-p-3
bounds-frames-p-3 c = simp length-set (omega arith)

pub bounds-frames-p-4 : goal.bounds-frames-p-4
bounds-frames-p-4 c = simp length-set (omega arith)
