-- The place and the line's end. Assumes nothing.
use Rattle.refused_line.proofs.Laws.{place_put}
use Rattle.words.specs.Words.{bytes_of}
use Rattle.refused_line.proofs.put_place.Goals as goal

pub returns : goal.returns
unfolding bytes_of
returns c = search place_put
