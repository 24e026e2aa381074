-- After `end` and perhaps `package`. Assumes nothing.
use Rattle.pieces.proofs.Classing.{behind_two, behind_one}
use Rattle.pieces.proofs.behind_word.Goals as goal

pub returns-then-kind_in-eq-WORD_PACKAGE : goal.returns-then-kind_in-eq-WORD_PACKAGE
returns-then-kind_in-eq-WORD_PACKAGE c = search behind_two

pub returns-else-kind_in-eq-WORD_PACKAGE : goal.returns-else-kind_in-eq-WORD_PACKAGE
returns-else-kind_in-eq-WORD_PACKAGE c = search behind_one
