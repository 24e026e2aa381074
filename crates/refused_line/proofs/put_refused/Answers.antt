-- The number and the place. Assumes nothing.
use Rattle.refused_line.proofs.Laws.{refused_put}
use Rattle.words.specs.Words.{bytes_of}
use Rattle.refused_line.proofs.put_refused.Goals as goal

pub returns : goal.returns
unfolding bytes_of
returns c = search refused_put
