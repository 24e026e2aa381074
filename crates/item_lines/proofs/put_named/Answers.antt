use Rattle.item_lines.proofs.Laws.{named_put}
use Rattle.item_lines.proofs.put_named.Goals as goal

pub returns : goal.returns
returns c = search named_put
