-- The invariant: the table with the records left completed is the whole. Assumes nothing.
use Rattle.items.proofs.Laws.{completed_start, completed_turn, completed_end}
use Rattle.items.proofs.complete_items.Goals as goal

pub loop-i-init : goal.loop-i-init
loop-i-init c = search completed_start

pub loop-i-preserved : goal.loop-i-preserved
loop-i-preserved c = search completed_turn

pub returns : goal.returns
returns c = search completed_end
