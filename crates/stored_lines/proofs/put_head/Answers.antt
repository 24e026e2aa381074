use Rattle.stored_lines.proofs.Laws.{head_put}
use Rattle.words.specs.Words.{bytes_of}
use Rattle.stored_lines.proofs.put_head.Goals as goal

pub returns : goal.returns
unfolding bytes_of
returns c = search head_put
