-- An answer as its words, one after the other: what the listings are made from. Assumes nothing.
use Rattle.std.specs.Prelude.{ℕ, List, [], ◌∷◌, get_or}
use Rattle.states.specs.States as state
use Rattle.kawhiluhe.specs.declared.Elements.{Elements}
use Rattle.kawhiluhe.specs.declared.Judged.{Judged}
use Rattle.kawhiluhe.specs.declared.Surveyed.{Surveyed}
use Rattle.kawhiluhe.specs.declared.Kept.{Kept}
use Rattle.kawhiluhe.specs.declared.Unstored.{Unstored}

-- the element reader's
unfoldable pub element_words : Elements → List ℕ
element_words x = x.refusal ∷ x.place ∷ x.elements ∷ []

-- the strict reading's
unfoldable pub judged_words : Judged → List ℕ
judged_words x = x.refusal ∷ x.place ∷ x.rows ∷ x.passes ∷ x.row ∷ []

-- the eleven counts of a tally, by their states
unfoldable pub counts_of : List ℕ → List ℕ
counts_of t =
    get_or t 0 0 ∷ get_or t state.broken 0 ∷ get_or t state.doubled 0 ∷ get_or t state.unfolded 0 ∷ get_or t state.unknown 0 ∷ get_or t state.leans 0 ∷ get_or t state.kind 0
    ∷ get_or t state.divisor 0 ∷ get_or t state.exponent 0 ∷ get_or t state.size 0 ∷ get_or t state.range 0 ∷ []

-- the survey's
unfoldable pub surveyed_words : Surveyed → List ℕ
surveyed_words x =
    x.refusal ∷ x.place ∷ x.pieces ∷ x.frame ∷ x.whole ∷ x.pair ∷ x.earlier ∷ x.later ∷ counts_of x.tally

-- storing's
unfoldable pub kept_words : Kept → List ℕ
kept_words x = x.refusal ∷ x.place ∷ x.bytes ∷ []

-- a stored table's that was read
unfoldable pub unstored_words : Unstored → List ℕ
unstored_words x = x.refusal ∷ x.place ∷ x.items ∷ x.name ∷ x.length ∷ []
