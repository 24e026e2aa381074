-- The rows of a stored table read back: six words to an item, its class, its name's place in the bytes and length, and its kind and two numbers as
-- in the survey's records. Assumes nothing.
use Rattle.std.specs.Prelude.{ℕ, ◌+◌, List, [], ◌∷◌, length}
use Rattle.pieces.specs.Classes as class
use Rattle.values.specs.ValueWords.{value_kind, low_of, high_of}
use Rattle.values.specs.declared.Value.{Value}
use Rattle.values.specs.declared.Value.TheVariants as value
use Rattle.stored.specs.StoredItems.{StoredItem, value_size}
use Rattle.stored.specs.declared.StoredValue.{StoredValue}
use Rattle.stored.specs.declared.StoredValue.TheVariants.{Number, Truth, Range, Truths}

-- what the survey calls the value
abbrev pub survey_value : StoredValue → Value
survey_value (Number z) = value.Number z
survey_value (Truth t) = value.Truth t
survey_value (Range low high) = value.Range low high
survey_value Truths = value.Truths

abbrev pub stored_class : StoredValue → ℕ
stored_class (Number z) = class.constant
stored_class (Truth t) = class.constant
stored_class (Range low high) = class.subtype
stored_class Truths = class.subtype

-- how many bytes a field has before its contents: the tag and the length
abbrev pub head_size : ℕ
head_size = 3

-- how many bytes an item's field has
abbrev pub size_of : StoredItem → ℕ
size_of i = head_size + (value_size i.value + length i.name)

-- how many words a row has
abbrev pub stored_row_words : ℕ
stored_row_words = 6

-- and the places of its words
abbrev pub stored_class_column : ℕ
stored_class_column = 0

abbrev pub stored_place_column : ℕ
stored_place_column = 1

abbrev pub stored_length_column : ℕ
stored_length_column = 2

abbrev pub stored_kind_column : ℕ
stored_kind_column = 3

abbrev pub stored_low_column : ℕ
stored_low_column = 4

abbrev pub stored_high_column : ℕ
stored_high_column = 5

abbrev pub stored_row : StoredValue → ℕ → ℕ → List ℕ
stored_row v place size = stored_class v ∷ place ∷ size ∷ value_kind (survey_value v) ∷ low_of (survey_value v) ∷ high_of (survey_value v) ∷ []

-- the rows of items whose fields stand one after the other from a place on
unfoldable pub stored_rows_from : ℕ → List StoredItem → List ℕ
stored_rows_from at [] = []
stored_rows_from at (i ∷ is) =
    stored_class i.value ∷ (at + (head_size + value_size i.value)) ∷ length i.name ∷ value_kind (survey_value i.value) ∷ low_of (survey_value i.value)
    ∷ high_of (survey_value i.value) ∷ stored_rows_from (at + size_of i) is
