-- The refusal's line, or nothing. Assumes nothing.
use Rattle.refused_line.proofs.Laws.{refusing}
use Rattle.refused_line.proofs.put_refusal.Goals as goal

pub returns : goal.returns
returns c = search refusing
