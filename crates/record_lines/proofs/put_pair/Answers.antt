-- The two pieces, or none. Assumes nothing.
use Rattle.record_lines.proofs.Laws.{pair_put, none_put}
use Rattle.words.specs.Words.{bytes_of}
use Rattle.record_lines.proofs.put_pair.Goals as goal

pub returns-then-pair-eq1 : goal.returns-then-pair-eq1
returns-then-pair-eq1 c = search pair_put

pub returns : goal.returns
unfolding bytes_of
returns c = search none_put
