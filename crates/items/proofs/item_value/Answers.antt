-- Broken, claimed twice, or formed. Assumes nothing.
use Rattle.items.proofs.Laws.{is_broken, is_twice, is_formed}
use Rattle.items.proofs.item_value.Goals as goal

pub returns-then-m-eq0 : goal.returns-then-m-eq0
returns-then-m-eq0 c = search is_broken

pub returns-then-is_doubled : goal.returns-then-is_doubled
returns-then-is_doubled c = search is_twice

pub returns : goal.returns
returns c = search is_formed
