-- The row and the line's end. Assumes nothing.
use Rattle.tree_lines.proofs.Laws.{fails_put}
use Rattle.words.specs.Words.{bytes_of}
use Rattle.tree_lines.proofs.put_fails.Goals as goal

pub returns : goal.returns
unfolding bytes_of
returns c = search fails_put
