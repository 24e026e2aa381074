-- Four words, each at its place. Assumes nothing.
use Rattle.pieces.specs.Columns.{record_words}
use native.Mathlib.Omega.{arith}
use lib.ListN.{length-set}
use Rattle.items.proofs.Laws.{four_stored}
use Prim.Native.Nat.{◌*◌}
use Rattle.items.proofs.put_value.Goals as goal

pub bounds-items-at-2 : goal.bounds-items-at-2
bounds-items-at-2 c = simp length-set (omega arith)

pub bounds-items-at-3 : goal.bounds-items-at-3
bounds-items-at-3 c = simp length-set (omega arith)

pub bounds-items-at-4 : goal.bounds-items-at-4
bounds-items-at-4 c = simp length-set (omega arith)

pub returns : goal.returns
returns c = four_stored c.args.items.now (record_words * c.args.i) c.args.v _ _ _ _ c.state_word.ensures c.kind_word.ensures c.low_word.ensures c.high_word.ensures
