-- How it is said what a caller reads off the item table that a survey leaves, record by record and word by word (01, "Pieces, items, states"): the
-- window in `promises` has the statements, over the contract of `read_survey`. Assumes nothing: these are definitions.
use Rattle.std.specs.Prelude.{ℕ, ◌<◌, ◌≡◌, true, List, [], Ok}
use Rattle.records.specs.Records.{word_at, is_item}
use Rattle.pieces.specs.Columns as column
use Rattle.values.specs.ValueWords.{state_of, value_kind, low_of, high_of}
use Rattle.values.specs.declared.Value.{Value}
use Rattle.meaning.specs.Elements.{Piece}
use Rattle.meaning.specs.Pieces.{pieces_of, class_of}
use Rattle.meaning.specs.Names.{Done, use_of}
use Rattle.meaning.specs.ItemForms.{ItemForm, HasForm}
use Rattle.meaning.specs.States.{Met, NoneMet}
use Rattle.meaning.specs.Values.{Gives}
use Rattle.meaning.specs.Meaning.{Come}
use Rattle.meaning.specs.Records.{record_count, piece_of, pieces_above}
use Rattle.survey_reading.specs.Permitted.{Permitted}
use Rattle.survey_reading.specs.declared.Summary.{Summary}

-- what is said of every survey that is done: its text, what it answers, and the item table that it leaves, whatever sizes the lent tables have
abbrev pub OfSurveys : (List ℕ → Summary → List ℕ → Type 0) → Type 0
OfSurveys P =
    (text : List ℕ) (element_words item_words : ℕ) (y : Summary) (elements items : List ℕ)
    → Permitted text element_words item_words (Ok y) elements items → P text y items

-- record j of a text is an item's, and this is what the pieces above it come to
pub record ItemAt (text : List ℕ) (j : ℕ) (above : List Done) : Type 0 where
  pub there : j < record_count (pieces_of text)
  pub item : is_item (class_of (piece_of (pieces_of text) j)) ≡ true
  pub come : Come (pieces_of text) [] (pieces_above (pieces_of text) j) above

-- what is said of every item: the text's pieces, those above it with what they come to, its own piece, and the words of its record
abbrev pub OfItems : (List Piece → List Done → Piece → (ℕ → ℕ) → Type 0) → Type 0
OfItems P =
    OfSurveys (λ text y items. (j : ℕ) (above : List Done) → ItemAt text j above → P (pieces_of text) above (piece_of (pieces_of text) j) (word_at items j))

-- what an item comes to that meets none of 1 to 6 and ends in none of 7 to 10, as its record holds it: kind and two numbers
pub record Numbered (all : List Piece) (above : List Done) (p : Piece) (word : ℕ → ℕ) : Type 0 where
  pub form : ItemForm
  pub value : Value
  pub fits : HasForm p form
  pub none_met : NoneMet (Met all above p)
  pub given : Gives (use_of all above) form value
  pub folded : state_of value ≡ 0
  pub kind_is : word column.kind ≡ value_kind value
  pub low_is : word column.low ≡ low_of value
  pub high_is : word column.high ≡ high_of value
