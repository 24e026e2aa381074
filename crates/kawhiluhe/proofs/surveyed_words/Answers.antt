-- The words in their order. Assumes nothing.
use Prim.Native.Nat.{ℕ}
use mathlib.Core.Path.{◌≡◌}
use mathlib.Core.List.{List, ◌∷◌}
use Rattle.kawhiluhe.specs.declared.Surveyed.{Surveyed}
use Rattle.kawhiluhe.specs.AnswerWords.{surveyed_words, counts_of}
use Rattle.kawhiluhe.proofs.surveyed_words.Goals as goal

-- Word by word, so that a wrong one is told by its place.
told : (x : Surveyed) (a b c d e f g h : ℕ) (k : List ℕ) → a ≡ x.refusal → b ≡ x.place → c ≡ x.pieces → d ≡ x.frame → e ≡ x.whole → f ≡ x.pair → g ≡ x.earlier → h ≡ x.later
    → k ≡ counts_of x.tally → a ∷ b ∷ c ∷ d ∷ e ∷ f ∷ g ∷ h ∷ k ≡ surveyed_words x
unfolding surveyed_words
told x a b c d e f g h k p q r s t u v w y = rw (p, q, r, s, t, u, v, w, y)

pub returns : goal.returns
unfolding counts_of
returns c = search told
