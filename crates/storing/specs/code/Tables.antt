-- What the code makes of any tables: the fields of an item table's records, one after the other. Assumes nothing.
use Rattle.std.specs.Prelude.{ℕ, zero, suc, ◌+◌, Bool, List, [], ◌∷◌, ◌++◌, map, eqb, Option, Some, None}
use Rattle.places.specs.Kinds.{identifier_kind}
use Rattle.places.specs.Places.{kind_column, cell_at}
use Rattle.pieces.specs.Columns as column
use Rattle.records.specs.Records.{word_at}
use Rattle.values.specs.code.Used.{used_value}
use Rattle.operands.specs.code.Operands.{bytes_at}
use Rattle.stored.specs.Fields.{fields_bytes}
use Rattle.stored.specs.StoredItems.{StoredItem, item_field, name_field}
use Rattle.stored_writing.specs.Written.{as_stored, field_put, fields_put, field_size, field_head_size}
use Rattle.stored.specs.declared.StoredValue.{StoredValue}
use Rattle.storing.specs.SurveyItems.{stored_value}

-- what record i gives to be stored
unfoldable pub held_at : List ℕ → ℕ → Option StoredValue
held_at items i = stored_value (used_value (word_at items i column.class) (word_at items i column.state) (word_at items i column.kind) (word_at items i column.low) (word_at items i column.high))

-- the name that element e is, as it is stored
abbrev pub is_basic : List ℕ → ℕ → Bool
is_basic elements e = eqb (cell_at elements e kind_column) identifier_kind

unfoldable pub stored_name_at : List ℕ → List ℕ → ℕ → List ℕ
stored_name_at text elements e = as_stored (is_basic elements e) (bytes_at text elements e)

abbrev pub item_by : Option StoredValue → List ℕ → List StoredItem
item_by None n = []
item_by (Some v) n = record { value = v; name = n } ∷ []

unfoldable pub item_at : List ℕ → List ℕ → List ℕ → ℕ → List StoredItem
item_at text elements items i = item_by (held_at items i) (stored_name_at text elements (word_at items i column.name))

-- the items of the first n records
unfoldable pub items_of_records : List ℕ → List ℕ → List ℕ → ℕ → List StoredItem
items_of_records text elements items zero = []
items_of_records text elements items (suc n) = items_of_records text elements items n ++ item_at text elements items n

-- their fields as they are put, and how many bytes these have
abbrev pub put_items : List StoredItem → List ℕ
put_items is = fields_put (map item_field is)

unfoldable pub size_items : List StoredItem → ℕ
size_items [] = 0
size_items (i ∷ is) = field_size (item_field i) + size_items is

-- the package's name, the items, the end
unfoldable pub package_at : List ℕ → List ℕ → List ℕ → List ℕ
package_at text elements items = stored_name_at text elements (word_at items 0 column.name)

unfoldable pub put_table : List ℕ → List ℕ → List ℕ → ℕ → List ℕ
put_table text elements items n = field_put (name_field (package_at text elements items)) ++ (put_items (items_of_records text elements items n) ++ fields_bytes [])

unfoldable pub size_table : List ℕ → List ℕ → List ℕ → ℕ → ℕ
size_table text elements items n = field_size (name_field (package_at text elements items)) + size_items (items_of_records text elements items n) + field_head_size
