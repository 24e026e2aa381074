use Rattle.item_lines.proofs.Laws.{value_result, state_result}
use Rattle.item_lines.proofs.put_result.Goals as goal

pub returns-then-state-eq0 : goal.returns-then-state-eq0
returns-then-state-eq0 c = search value_result

pub returns : goal.returns
returns c = search state_result
