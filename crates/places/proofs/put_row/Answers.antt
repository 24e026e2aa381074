-- Three words stored, or none. Assumes nothing.
use Rattle.places.proofs.Laws.{put_there, put_nowhere}
use lib.ListN.{length-set}
use native.Mathlib.Omega.{arith}
use mathlib.Core.Path.{sym}
use Rattle.places.proofs.put_row.Goals as goal

pub bounds-t-w-then-n-t : goal.bounds-t-w-then-n-t
bounds-t-w-then-n-t c = simp length-set (omega arith)

pub bounds-t-w-then-n-t-2 : goal.bounds-t-w-then-n-t-2
bounds-t-w-then-n-t-2 c = simp length-set (omega arith)

pub returns-then-n-t : goal.returns-then-n-t
returns-then-n-t c = sym (put_there c.args.t.now c.args.e.0 c.args.kind c.args.first.0 c.args.size c.if-n-t.true)

pub returns-else-n-t : goal.returns-else-n-t
returns-else-n-t c = sym (put_nowhere c.args.t.now c.args.e.0 c.args.kind c.args.first.0 c.args.size c.if-n-t.false)
