-- What the code makes of any rows: their items, and the fields of these as they are put. Assumes nothing.
use Rattle.std.specs.Prelude.{ℕ, zero, suc, ◌*◌, cond, not, List, [], ◌∷◌, ◌++◌, map, eqb, get_or, take, drop}
use Rattle.pieces.specs.Classes as class
use Rattle.integers.specs.FoldedNumbers.{integer_kind}
use Rattle.values.specs.code.Used.{signed_number}
use Rattle.stored.specs.Fields.{fields_bytes}
use Rattle.stored.specs.StoredItems.{StoredItem, item_field, name_field}
use Rattle.stored.specs.declared.StoredValue.{StoredValue}
use Rattle.stored.specs.declared.StoredValue.TheVariants.{Number, Truth, Range, Truths}
use Rattle.stored_reading.specs.StoredRows.{stored_row_words, stored_class_column, stored_place_column, stored_length_column, stored_kind_column, stored_low_column, stored_high_column}
use Rattle.stored_writing.specs.Written.{field_put, fields_put}

-- what a row's words say
unfoldable pub row_constant : ℕ → ℕ → StoredValue
row_constant kind low = cond (eqb kind integer_kind) (Number (signed_number low)) (Truth (not (eqb low 0)))

unfoldable pub row_subtype : ℕ → ℕ → ℕ → StoredValue
row_subtype kind low high = cond (eqb kind integer_kind) (Range (signed_number low) (signed_number high)) Truths

unfoldable pub row_value : List ℕ → StoredValue
row_value row =
    cond (eqb (get_or row stored_class_column 0) class.constant) (row_constant (get_or row stored_kind_column 0) (get_or row stored_low_column 0))
    (row_subtype (get_or row stored_kind_column 0) (get_or row stored_low_column 0) (get_or row stored_high_column 0))

unfoldable pub row_item : List ℕ → List ℕ → StoredItem
row_item s row = record { value = row_value row; name = take (get_or row stored_length_column 0) (drop (get_or row stored_place_column 0) s) }

-- row i, and the items of the first n rows
abbrev pub stored_row_at : List ℕ → ℕ → List ℕ
stored_row_at rows i = take stored_row_words (drop (stored_row_words * i) rows)

unfoldable pub row_items : List ℕ → List ℕ → ℕ → List StoredItem
row_items s rows zero = []
row_items s rows (suc n) = row_items s rows n ++ (row_item s (stored_row_at rows n) ∷ [])

-- the package's name, the items, the end
unfoldable pub table_put : List ℕ → ℕ → ℕ → List ℕ → ℕ → List ℕ
table_put s first size rows n = field_put (name_field (take size (drop first s))) ++ (fields_put (map item_field (row_items s rows n)) ++ fields_bytes [])
