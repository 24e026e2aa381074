-- The invariant: the words so far are written. Assumes nothing.
use native.Mathlib.Omega.{arith}
use Rattle.names.proofs.Tables.{word_written, all_written}
use Rattle.names.proofs.write_words.Goals as goal

pub loop-i-preserved : goal.loop-i-preserved
loop-i-preserved c = word_written _ c.loop-i.to c.loop-i.i _ c.loop-i.invariant (omega arith) c.word_at.ensures

pub returns : goal.returns
returns c = all_written _ _ _ c.args.to.now c.loop-i.i c.loop-i.auto.to c.loop-i.invariant (omega arith)
