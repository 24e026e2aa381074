-- What reading bytes as a stored table may answer, and leave in the table that it is lent, which has so many words: one predicate, which is the
-- contract. Assumes nothing: these are definitions.
use Rattle.std.specs.Prelude.{ℕ, ◌+◌, ◌-◌, ◌*◌, ◌/◌, ◌≤◌, ◌<◌, ◌≡◌, List, ◌++◌, length, replicate, Err, Result, Ok}
use Rattle.places.specs.declared.BytePlace.{BytePlace}
use Rattle.stored.specs.StoredItems.{StoredItem}
use Rattle.stored.specs.Stored.{Stored, form_one}
use Rattle.stored_reading.specs.StoredRows.{head_size, stored_row_words, stored_rows_from}
use Rattle.stored_reading.specs.declared.StoredTable.{StoredTable}
use Rattle.stored_reading.specs.declared.StoredRefusal.{StoredRefusal}
use Rattle.stored_reading.specs.declared.StoredRefusal.TheVariants.{NotStored, ItemsShort}

-- what reading answers: a table, or a refusal
abbrev pub StoredReading : Type 0
StoredReading = Result StoredTable StoredRefusal

-- a table whose package's name stands at a byte and is so long, with so many items
abbrev pub read_table : BytePlace → ℕ → ℕ → StoredReading
read_table first size count = Ok (record { name = first; length = size; items = count })

-- how many rows a table of so many words has
abbrev pub stored_rows_in : ℕ → ℕ
stored_rows_in words = words / stored_row_words

-- "Reading a stored table gives the items back": where the package's name stands and how long it is, how many items, a row to each, then zeros
pub record Back (s : List ℕ) (words : ℕ) (first : BytePlace) (size count : ℕ) (rows : List ℕ) : Type 0 where
  pub name : List ℕ
  pub items : List StoredItem
  pub stored : Stored form_one s name items
  pub room : length items ≤ stored_rows_in words
  pub first_is : first.0 ≡ head_size
  pub size_is : size ≡ length name
  pub count_is : count ≡ length items
  pub rows_are : rows ≡ stored_rows_from (head_size + length name) items ++ replicate (words - stored_row_words * length items) 0

-- items for which the table has too few rows
pub record Short (s : List ℕ) (words rows : ℕ) : Type 0 where
  pub name : List ℕ
  pub items : List StoredItem
  pub stored : Stored form_one s name items
  pub short : stored_rows_in words < length items
  pub rows_are : rows ≡ stored_rows_in words

-- "on reading 24, bytes that aren't exactly one such table ..; then 10"
abbrev pub Due : List ℕ → ℕ → StoredRefusal → Type 0
Due s words NotStored = (n : List ℕ) (items : List StoredItem) → Stored form_one s n items → ⊥
Due s words (ItemsShort rows) = Short s words rows

-- "The output is zeros after any."
abbrev pub Permitted : List ℕ → ℕ → StoredReading → List ℕ → Type 0
Permitted s words (Ok t) rows = Back s words t.name t.length t.items rows
Permitted s words (Err r) rows = Due s words r × (rows ≡ replicate words 0)
