-- What the survey of a text leaves in the caller's item table, as words: no definition of a value or of a state stands between. Assumes nothing:
-- these are definitions.
use Rattle.std.specs.Prelude.{ℕ, zero, suc, ◌+◌, ◌-◌, ◌*◌, ◌≡◌, List, [], ◌∷◌, ◌++◌, length, take, drop, Result}
use Prim.Native.String.{String}
use Rattle.words.specs.Words.{bytes_of}
use Rattle.places.specs.Sizes.{most_elements, most_pieces}
use Rattle.places.specs.Places.{row_words}
use Rattle.pieces.specs.Records.{record_words}
use Rattle.survey_reading.specs.Permitted.{Permitted}
use Rattle.survey_reading.specs.declared.Summary.{Summary}
use Rattle.refusals.specs.declared.SurveyRefusal.{SurveyRefusal}

-- what holds of the item table after the survey, by every answer that its contract permits, with tables lent that have a row to each element
-- and a record to each piece of any text
abbrev pub OfTable : List ℕ → (List ℕ → Type 0) → Type 0
OfTable text P = (x : Result Summary SurveyRefusal) (elements items : List ℕ) → Permitted text (row_words * most_elements) (record_words * most_pieces) x elements items → P items

-- "class ..; first element, count, name element", and then "state; in state 0 kind, 1 integer or 2 truth, and two numbers": where the state stands,
-- the first n records, and the words of record k from its state on
abbrev pub state_at : ℕ
state_at = 4

abbrev pub first_records : ℕ → List ℕ → List ℕ
first_records n items = take (record_words * n) items

abbrev pub LeavesFirst : ℕ → List ℕ → List ℕ → Type 0
LeavesFirst n text words = OfTable text (λ items. first_records n items ≡ words)

abbrev pub last_words : ℕ → List ℕ → List ℕ
last_words k items = take (record_words - state_at) (drop (record_words * k + state_at) items)

-- those of n records from the k-th on
abbrev pub lasts_from : ℕ → ℕ → List ℕ → List ℕ
lasts_from k zero items = []
lasts_from k (suc n) items = last_words k items ++ lasts_from (suc k) n items

-- an item's bytes, and the last four words of its record: state, kind and two numbers
pub record ItemLine : Type 0 where
  pub item : List ℕ
  pub words : List ℕ

abbrev pub line : String → ℕ → ℕ → ℕ → ℕ → ItemLine
line item state kind low high = record { item = bytes_of item; words = state ∷ kind ∷ low ∷ high ∷ [] }

-- the package of these items, a line to each
abbrev pub items_text : List ItemLine → List ℕ
items_text [] = []
items_text (l ∷ ls) = l.item ++ (bytes_of "\n" ++ items_text ls)

abbrev pub package_of : List ItemLine → List ℕ
package_of ls = bytes_of "package p is\n" ++ items_text ls ++ bytes_of "end;\n"

-- their words
abbrev pub line_words : List ItemLine → List ℕ
line_words [] = []
line_words (l ∷ ls) = l.words ++ line_words ls

-- A survey of the package leaves these words in the records of its items, which stand after the heading's.
abbrev pub LeavesWords : List ItemLine → Type 0
LeavesWords ls = OfTable (package_of ls) (λ items. lasts_from 1 (length ls) items ≡ line_words ls)

-- The same of each item in a package of its own.
abbrev pub LeavesEach : List ItemLine → Type 0
LeavesEach [] = Unit {0}
LeavesEach (l ∷ ls) = LeavesWords (l ∷ []) × LeavesEach ls
