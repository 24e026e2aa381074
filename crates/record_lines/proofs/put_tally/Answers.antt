-- The eleven counts. Assumes nothing.
use Rattle.record_lines.proofs.Laws.{tally_put}
use Rattle.words.specs.Words.{bytes_of}
use Rattle.record_lines.proofs.put_tally.Goals as goal

pub returns : goal.returns
unfolding bytes_of
returns c = search tally_put
