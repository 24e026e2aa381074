-- The least of the two counts. Assumes nothing.
use Rattle.record_lines.proofs.Laws.{listed_of}
use Rattle.record_lines.proofs.records_listed.Goals as goal

pub returns : goal.returns
returns c = search listed_of
