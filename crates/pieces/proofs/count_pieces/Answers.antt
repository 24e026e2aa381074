-- The invariant: the pieces so far and those of the rest are all. Assumes nothing.
use Rattle.pieces.proofs.Laws.{size_inside, at_fits, at_less, count_bound, count_turn, count_end}
use Prim.Native.Nat.{◌-◌}
use Rattle.pieces.proofs.count_pieces.Goals as goal

pub overflow_add-at : goal.overflow_add-at
overflow_add-at c = search at_fits

pub loop-at-smaller : goal.loop-at-smaller
loop-at-smaller c = search at_less

pub loop-at-preserved : goal.loop-at-preserved
loop-at-preserved c = (search size_inside, (search count_bound, search count_turn))

pub returns : goal.returns
returns c = search count_end
