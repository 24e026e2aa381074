-- The words in their order. Assumes nothing.
use mathlib.Core.Path.{refl}
use Rattle.kawhiluhe.specs.AnswerWords.{unstored_words}
use Rattle.kawhiluhe.proofs.unstored_words.Goals as goal

pub returns : goal.returns
unfolding unstored_words
returns c = refl
