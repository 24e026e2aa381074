-- Whether it passes, or the row. Assumes nothing.
use Rattle.tree_lines.proofs.Laws.{passes_put, not_put}
use Rattle.words.specs.Words.{bytes_of}
use Rattle.tree_lines.proofs.put_verdict.Goals as goal

pub returns-then-passes-eq1 : goal.returns-then-passes-eq1
unfolding bytes_of
returns-then-passes-eq1 c = search passes_put

pub returns : goal.returns
returns c = search not_put
