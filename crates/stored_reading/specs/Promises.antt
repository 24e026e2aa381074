-- What reading a stored table promises beside its contract, as statements: proofs/Promises.antt proves each. Assumes nothing: these are definitions.
use Rattle.std.specs.Prelude.{ℕ, ◌+◌, ◌<◌, ◌≡◌, ◌↔◌, List, [], ◌∷◌, length, take, drop, Err}
use Rattle.stored.specs.StoredItems.{StoredItem, value_size}
use Rattle.stored.specs.Stored.{Stored, form_one}
use Rattle.stored_reading.specs.StoredRows.{head_size, size_of}
use Rattle.stored_reading.specs.Permitted.{stored_rows_in, Permitted}
use Rattle.stored_reading.specs.declared.StoredRefusal.TheVariants.{NotStored, ItemsShort}
use Rattle.stored_reading.specs.Permitted.{StoredReading}

-- Any two answers that the contract of `read_stored` permits coincide, and so do the rows.
abbrev pub NoChoice : Type 0
NoChoice = (s : List ℕ) (words : ℕ) (r q : StoredReading) (t u : List ℕ) → Permitted s words r t → Permitted s words q u → (r ≡ q) × (t ≡ u)

-- 24 is given exactly where no legal items have these bytes, and 10 exactly where there are such items and the rows are fewer.
abbrev pub RefusedExactly : Type 0
RefusedExactly =
    (s : List ℕ) (words : ℕ) (r : StoredReading) (t : List ℕ) → Permitted s words r t
    → ((r ≡ Err NotStored) ↔ ((n : List ℕ) (items : List StoredItem) → Stored form_one s n items → ⊥))
    × ((r ≡ Err (ItemsShort (stored_rows_in words))) ↔ ((n : List ℕ) × (items : List StoredItem) × Stored form_one s n items × (stored_rows_in words < length items)))

-- The names stand in the bytes where the answer and the rows say.
abbrev pub NamesAt : List ℕ → ℕ → List StoredItem → Type 0
NamesAt s at [] = Unit
NamesAt s at (i ∷ is) = (take (length i.name) (drop (at + (head_size + value_size i.value)) s) ≡ i.name) × NamesAt s (at + size_of i) is

abbrev pub NamesStand : Type 0
NamesStand =
    (s n : List ℕ) (items : List StoredItem) → Stored form_one s n items
    → (take (length n) (drop head_size s) ≡ n) × NamesAt s (head_size + length n) items
