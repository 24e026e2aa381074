-- The piece's number and the record's eight. Assumes nothing.
use Rattle.record_lines.proofs.Laws.{record_put}
use Rattle.record_lines.proofs.put_record.Goals as goal

pub returns : goal.returns
returns c = search record_put
