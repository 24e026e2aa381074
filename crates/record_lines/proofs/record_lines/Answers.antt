-- The head, the records, the tally and the pair, or one. Assumes nothing.
use Rattle.record_lines.proofs.Laws.{lines_of}
use Rattle.record_lines.proofs.record_lines.Goals as goal

pub returns : goal.returns
returns c = search lines_of
