-- The part taken is the element's bytes. Assumes nothing.
use Rattle.operands.proofs.Laws.{not_folded, folded}
use Rattle.operands.proofs.literal_outcome.Goals as goal

pub returns-then-kind_of-ne-INTEGER_LITERAL : goal.returns-then-kind_of-ne-INTEGER_LITERAL
returns-then-kind_of-ne-INTEGER_LITERAL c = search not_folded

pub returns : goal.returns
returns c = search folded
