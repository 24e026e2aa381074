-- A constant or a subtype. Assumes nothing.
use Rattle.items.proofs.Laws.{formed_not, is_constant, is_subtype}
use Rattle.items.proofs.formed.Goals as goal

pub returns-then-m-lt-AFTER_MARK : goal.returns-then-m-lt-AFTER_MARK
returns-then-m-lt-AFTER_MARK c = search formed_not

pub returns-then-word-eq-CONSTANT : goal.returns-then-word-eq-CONSTANT
returns-then-word-eq-CONSTANT c = search is_constant

pub returns : goal.returns
returns c = search is_subtype
