-- The words in their order. Assumes nothing.
use mathlib.Core.Path.{refl}
use Rattle.kawhiluhe.specs.AnswerWords.{kept_words}
use Rattle.kawhiluhe.proofs.kept_words.Goals as goal

pub returns : goal.returns
unfolding kept_words
returns c = refl
