-- Eight stores are a record. Assumes nothing.
use native.Mathlib.Omega.{arith}
use Rattle.pieces.proofs.Table.{stored}
use lib.ListN.{length-set}
use Rattle.pieces.proofs.write_record.Goals as goal

pub bounds-items-w-2 : goal.bounds-items-w-2
bounds-items-w-2 c = simp length-set (omega arith)

pub bounds-items-w-3 : goal.bounds-items-w-3
bounds-items-w-3 c = simp length-set (omega arith)

pub bounds-items-w-4 : goal.bounds-items-w-4
bounds-items-w-4 c = simp length-set (omega arith)

pub bounds-items-w-5 : goal.bounds-items-w-5
bounds-items-w-5 c = simp length-set (omega arith)

pub bounds-items-w-6 : goal.bounds-items-w-6
bounds-items-w-6 c = simp length-set (omega arith)

pub bounds-items-w-7 : goal.bounds-items-w-7
bounds-items-w-7 c = simp length-set (omega arith)

pub bounds-items-w-8 : goal.bounds-items-w-8
bounds-items-w-8 c = simp length-set (omega arith)

pub shape_of-items : goal.shape_of-items
shape_of-items c = simp length-set

pub returns : goal.returns
returns c = search stored
