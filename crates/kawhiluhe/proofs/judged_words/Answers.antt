-- The words in their order. Assumes nothing.
use mathlib.Core.Path.{refl}
use Rattle.kawhiluhe.specs.AnswerWords.{judged_words}
use Rattle.kawhiluhe.proofs.judged_words.Goals as goal

pub returns : goal.returns
unfolding judged_words
returns c = refl
