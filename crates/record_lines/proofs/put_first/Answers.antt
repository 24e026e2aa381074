-- The head of the answer. Assumes nothing.
use Rattle.record_lines.proofs.Laws.{first_put}
use Rattle.record_lines.proofs.put_first.Goals as goal

pub returns : goal.returns
returns c = search first_put
