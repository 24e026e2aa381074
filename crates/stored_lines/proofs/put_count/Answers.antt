use Rattle.stored_lines.proofs.Laws.{count_put}
use Rattle.words.specs.Words.{bytes_of}
use Rattle.stored_lines.proofs.put_count.Goals as goal

pub returns : goal.returns
unfolding bytes_of
returns c = search count_put
