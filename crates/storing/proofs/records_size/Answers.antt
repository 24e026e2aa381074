-- The invariant: the size so far is that of the records passed. Assumes nothing.
use Rattle.storing.proofs.Puts.{sizes_none, sizes_more, sizes_all, size_fits}
use Rattle.storing.proofs.records_size.Goals as goal

pub loop-i-init : goal.loop-i-init
loop-i-init c = sizes_none _ _ _

pub overflow_add-size : goal.overflow_add-size
overflow_add-size c = search size_fits

pub loop-i-preserved : goal.loop-i-preserved
loop-i-preserved c = search sizes_more

pub returns : goal.returns
returns c = search sizes_all
