-- What storing again what was read promises beside its contract, as statements: proofs/Promises.antt proves each. Assumes nothing: these are
-- definitions.
use Rattle.std.specs.Prelude.{ℕ, ◌-◌, ◌≤◌, ◌<◌, ◌≡◌, ◌↔◌, List, ◌++◌, length, get_or, replicate, Ok, Err}
use Rattle.places.specs.declared.BytePlace.{BytePlace}
use Rattle.stored.specs.Fields.{all_bytes}
use Rattle.stored.specs.StoredItems.{StoredItem}
use Rattle.stored.specs.Stored.{form_one, stored_bytes}
use Rattle.stored.specs.Stored as stored
use Rattle.stored_reading.specs.Permitted as reading
use Rattle.stored_reading.specs.declared.StoredRefusal.TheVariants.{NotStored, ItemsShort}
use Rattle.storing_again.specs.Permitted.{Permitted}
use Rattle.storing_again.specs.Refusals.{Again}
use Rattle.storing_again.specs.declared.AgainRefusal.TheVariants as again

-- There is a right answer to all bytes, with a table and an output of any size.
abbrev pub Answered : Type 0
Answered =
    (s : List ℕ) → ((i : ℕ) → get_or s i 0 < all_bytes) → (words room : ℕ) → (a : Again) × (rows : List ℕ) × (out : List ℕ) × Permitted s words room a rows out

-- Any two answers that the contract of `store_again` permits coincide, and so do the rows and the output.
abbrev pub NoChoice : Type 0
NoChoice =
    (s : List ℕ) (words room : ℕ) (a b : Again) (t u v w : List ℕ) → Permitted s words room a t v → Permitted s words room b u w
    → (a ≡ b) × (t ≡ u) × (v ≡ w)

-- 24 is given exactly where no legal items have these bytes; 10 exactly where there are such items and the rows are fewer; 22 exactly where the
-- rows suffice and the room is short of the items' bytes.
abbrev pub RefusedExactly : Type 0
RefusedExactly =
    (s : List ℕ) (words room : ℕ) (a : Again) (rows out : List ℕ) → Permitted s words room a rows out
    → ((a ≡ Err (again.Reading NotStored)) ↔ ((n : List ℕ) (items : List StoredItem) → stored.Stored form_one s n items → ⊥))
    × ((a ≡ Err (again.Reading (ItemsShort (reading.stored_rows_in words)))) ↔ ((n : List ℕ) × (items : List StoredItem) × stored.Stored form_one s n items × (reading.stored_rows_in words < length items)))
    × ((a ≡ Err (again.OutputShort room))
    ↔ ((n : List ℕ) × (items : List StoredItem) × stored.Stored form_one s n items × (length items ≤ reading.stored_rows_in words) × (room < length (stored_bytes form_one n items))))

-- "storing what was read gives the same bytes": all bytes that are read, where the output has room for as many.
abbrev pub SameBytes : Type 0
SameBytes =
    (s : List ℕ) (words room : ℕ) (first : BytePlace) (size count : ℕ) (read : List ℕ) → reading.Permitted s words (reading.read_table first size count) read
    → length s ≤ room → (a : Again) (rows out : List ℕ) → Permitted s words room a rows out
    → (a ≡ Ok (length s)) × (rows ≡ read) × (out ≡ s ++ replicate (room - length s) 0)
