-- An item's state, or 11. Assumes nothing.
use Rattle.records.proofs.Laws.{state_item, state_other}
use Rattle.records.proofs.state.Goals as goal

pub returns-then-is_item : goal.returns-then-is_item
returns-then-is_item c = search state_item

pub returns : goal.returns
returns c = search state_other
