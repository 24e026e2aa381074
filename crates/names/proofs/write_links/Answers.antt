-- The invariant: the rows so far are written. Assumes nothing.
use native.Mathlib.Omega.{arith}
use Rattle.names.proofs.Tables.{word_written, all_written}
use Rattle.names.proofs.write_links.Goals as goal

pub loop-e-preserved : goal.loop-e-preserved
loop-e-preserved c = word_written _ c.loop-e.links c.loop-e.e _ c.loop-e.invariant (omega arith) c.link_at.ensures

pub returns : goal.returns
returns c = all_written _ _ _ c.args.links.now c.loop-e.e c.loop-e.auto.links c.loop-e.invariant (omega arith)
