-- The two numbers. Assumes nothing.
use Rattle.record_lines.proofs.Laws.{both_put}
use Rattle.words.specs.Words.{bytes_of}
use Rattle.record_lines.proofs.put_both.Goals as goal

pub returns : goal.returns
unfolding bytes_of
returns c = search both_put
