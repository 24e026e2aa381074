-- Six stores. Assumes nothing.
use native.Mathlib.Omega.{arith}
use native.Mathlib.Numerals.{add-one, add-two, add-three, add-four, add_five}
use lib.ListN.{length-set}
use Rattle.stored_reading.proofs.put_row.Goals as goal

pub bounds-t-w-2 : goal.bounds-t-w-2
bounds-t-w-2 c = simp length-set (omega arith)

pub bounds-t-w-3 : goal.bounds-t-w-3
bounds-t-w-3 c = simp length-set (omega arith)

pub bounds-t-w-4 : goal.bounds-t-w-4
bounds-t-w-4 c = simp length-set (omega arith)

pub bounds-t-w-5 : goal.bounds-t-w-5
bounds-t-w-5 c = simp length-set (omega arith)

pub bounds-t-w-6 : goal.bounds-t-w-6
bounds-t-w-6 c = simp length-set (omega arith)

pub returns : goal.returns
returns c = rw (add-one, add-two, add-three, add-four, add_five)
