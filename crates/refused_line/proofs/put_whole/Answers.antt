use Rattle.refused_line.proofs.Laws.{whole_put, part_put}
use Rattle.words.specs.Words.{bytes_of}
use Rattle.refused_line.proofs.put_whole.Goals as goal

pub returns-then-whole-eq1 : goal.returns-then-whole-eq1
unfolding bytes_of
returns-then-whole-eq1 c = search whole_put

pub returns : goal.returns
unfolding bytes_of
returns c = search part_put
