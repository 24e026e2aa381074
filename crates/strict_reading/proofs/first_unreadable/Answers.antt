-- The invariant: the search from here is the search from the first element. Assumes nothing.
use Rattle.strict_reading.proofs.Laws.{unread_hit, unread_past, unread_end}
use Rattle.strict_reading.proofs.first_unreadable.Goals as goal

pub returns-then-kind_of-eq-UNREADABLE : goal.returns-then-kind_of-eq-UNREADABLE
returns-then-kind_of-eq-UNREADABLE c = search unread_hit

pub loop-i-preserved : goal.loop-i-preserved
loop-i-preserved c = search unread_past

pub returns : goal.returns
returns c = search unread_end
