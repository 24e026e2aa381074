-- The tally, or the pair. Assumes nothing.
use Rattle.record_lines.proofs.Laws.{tally_last, pair_last}
use Rattle.record_lines.proofs.put_last.Goals as goal

pub returns-then-i-n : goal.returns-then-i-n
returns-then-i-n c = search tally_last

pub returns : goal.returns
returns c = search pair_last
