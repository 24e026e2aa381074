-- The loop: whether the names that are left are all different. Assumes nothing.
use Rattle.different_names.proofs.Loops.{each_start, each_twice, each_on, each_end}
use Rattle.different_names.proofs.each_with_each.Goals as goal

pub loop-k-init : goal.loop-k-init
loop-k-init c = search each_start

pub returns-then-found_from : goal.returns-then-found_from
returns-then-found_from c = search each_twice

pub loop-k-preserved : goal.loop-k-preserved
loop-k-preserved c = search each_on

pub returns : goal.returns
returns c = search each_end
