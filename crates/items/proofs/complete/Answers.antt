-- An item's record, or one that stays. Assumes nothing.
use Rattle.items.proofs.Laws.{completed_item, completed_other}
use Rattle.items.proofs.complete.Goals as goal

pub returns-then-is_item : goal.returns-then-is_item
returns-then-is_item c = search completed_item

pub returns-else-is_item : goal.returns-else-is_item
returns-else-is_item c = search completed_other
