use Rattle.stored_lines.proofs.Laws.{item_put}
use Rattle.stored_lines.proofs.put_item.Goals as goal

pub returns : goal.returns
returns c = search item_put
