-- What a caller sees of items: by a survey, and by the rows of a stored table that was read back. Assumes nothing: these are definitions.
use Rattle.std.specs.Prelude.{ℕ, zero, suc, ◌≡◌, List, [], ◌∷◌, ◌++◌, length, get_or, take, drop, Ok, Err}
use Rattle.places.specs.declared.BytePlace.{BytePlace}
use Rattle.values.specs.ValueWords.{value_kind, low_of, high_of}
use Rattle.values.specs.declared.Value.{Value}
use Rattle.meaning.specs.Elements.{Element}
use Rattle.meaning.specs.Pieces.{class_of}
use Rattle.meaning.specs.Names.{names_claimed, Done}
use Rattle.stored_reading.specs.StoredRows.{stored_row_words, stored_class_column, stored_place_column, stored_length_column, stored_kind_column, stored_low_column, stored_high_column}
use Rattle.stored_reading.specs.Permitted.{StoredReading}
use Rattle.stored_reading.specs.Permitted.{read_table}
use Rattle.storing.specs.SurveyItems.{stored_name}

-- an item: constant or subtype, its name, "kind .. and two numbers"
pub record Shown : Type 0 where
  pub class : ℕ
  pub name : List ℕ
  pub kind : ℕ
  pub low : ℕ
  pub high : ℕ

-- ---- by a survey: the class, kind and numbers of each item's record, and its name, "in lower case unless extended"

abbrev pub shown_by : ℕ → Value → List Element → List Shown
shown_by class v [] = []
shown_by class v (x ∷ xs) = record { class = class; name = stored_name x; kind = value_kind v; low = low_of v; high = high_of v } ∷ shown_by class v xs

-- each piece in order, for each name that it claims
unfoldable pub survey_shows : List Done → List Shown
survey_shows [] = []
survey_shows (d ∷ ds) = shown_by (class_of d.piece) d.value (names_claimed d.piece) ++ survey_shows ds

-- ---- by rows of words, and the bytes in which the names stand

-- so many bytes from a place on
abbrev pub bytes_standing : List ℕ → ℕ → ℕ → List ℕ
bytes_standing s place size = take size (drop place s)

abbrev pub row_shows : List ℕ → List ℕ → Shown
row_shows s row = record {
  class = get_or row stored_class_column 0;
  name = bytes_standing s (get_or row stored_place_column 0) (get_or row stored_length_column 0);
  kind = get_or row stored_kind_column 0;
  low = get_or row stored_low_column 0;
  high = get_or row stored_high_column 0;
}

-- the first so many rows
unfoldable pub rows_show : List ℕ → List ℕ → ℕ → List Shown
rows_show s rows zero = []
rows_show s rows (suc n) = row_shows s rows ∷ rows_show s (drop stored_row_words rows) n

-- An answer, and the rows that were written, give back a package of this name with these items, from these bytes.
pub record GivesBack (s : List ℕ) (answer : StoredReading) (rows name : List ℕ) (items : List Shown) : Type 0 where
  pub first : BytePlace
  pub size : ℕ
  pub count : ℕ
  pub read : answer ≡ read_table first size count
  pub named : bytes_standing s first.0 size ≡ name
  pub counted : count ≡ length items
  pub shown : rows_show s rows count ≡ items
