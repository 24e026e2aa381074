-- The words in their order. Assumes nothing.
use mathlib.Core.Path.{refl}
use Rattle.kawhiluhe.specs.AnswerWords.{element_words}
use Rattle.kawhiluhe.proofs.element_words.Goals as goal

pub returns : goal.returns
unfolding element_words
returns c = refl
