-- The invariant: the rows counted with those left are the piece's. Assumes nothing.
use Rattle.items.proofs.Laws.{held_start, held_stop, held_turn, held_all}
use Rattle.items.proofs.rows_held.Goals as goal

pub loop-m-init : goal.loop-m-init
loop-m-init c = search held_start

pub returns-then-rows-from-eq0 : goal.returns-then-rows-from-eq0
returns-then-rows-from-eq0 c = search held_stop

pub loop-m-preserved : goal.loop-m-preserved
loop-m-preserved c = search held_turn

pub returns : goal.returns
returns c = search held_all
