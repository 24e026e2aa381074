-- The answers of storing and of reading what was stored as numbers, 0 for what is absent. Assumes nothing.
use Rattle.std.specs.Prelude.{ℕ, ◌≡◌, List, Ok, Err}
use Rattle.storing.specs.Refusals.{storing_number, storing_place}
use Rattle.storing.specs.Permitted as storing
use Rattle.storing.specs.Refusals.{Storing}
use Rattle.stored_reading.specs.Refusals.{stored_number, stored_place}
use Rattle.stored_reading.specs.Permitted as reading
use Rattle.stored_reading.specs.Permitted.{StoredReading}
use Rattle.storing_again.specs.Refusals.{again_number, again_place}
use Rattle.storing_again.specs.Permitted as twice
use Rattle.storing_again.specs.Refusals.{Again}
use Rattle.kawhiluhe.specs.declared.Kept.{Kept}
use Rattle.kawhiluhe.specs.declared.Unstored.{Unstored}

-- storing a survey: a refusal and its place, or how many bytes were written
abbrev pub bytes_stored : Storing → ℕ
bytes_stored (Ok n) = n
bytes_stored (Err r) = 0

abbrev pub store_numbers : Storing → Kept
store_numbers x = record { refusal = storing_number x; place = storing_place x; bytes = bytes_stored x }

-- what it may answer in these numbers, and leave in the two lent tables and the output
abbrev pub StorePermitted : List ℕ → ℕ → ℕ → ℕ → Kept → (elements items out : List ℕ) → Type 0
StorePermitted text element_words item_words out_bytes k elements items out =
    (a : Storing) × ((k ≡ store_numbers a) × storing.Permitted text element_words item_words out_bytes a elements items out)

-- reading a stored table: a refusal and its place, or how many items it has, and where the package's name stands and how long that is
abbrev pub unstore_numbers : StoredReading → Unstored
unstore_numbers (Ok t) = record { refusal = 0; place = 0; items = t.items; name = t.name.0; length = t.length }
unstore_numbers (Err r) = record { refusal = stored_number r; place = stored_place r; items = 0; name = 0; length = 0 }

abbrev pub UnstorePermitted : List ℕ → ℕ → Unstored → (rows : List ℕ) → Type 0
UnstorePermitted bytes row_words u rows = (a : StoredReading) × ((u ≡ unstore_numbers a) × reading.Permitted bytes row_words a rows)

-- storing again what was read: a refusal and its place, or how many bytes were written
abbrev pub bytes_again : Again → ℕ
bytes_again (Ok n) = n
bytes_again (Err r) = 0

abbrev pub again_numbers : Again → Kept
again_numbers x = record { refusal = again_number x; place = again_place x; bytes = bytes_again x }

abbrev pub AgainPermitted : List ℕ → ℕ → ℕ → Kept → (rows out : List ℕ) → Type 0
AgainPermitted bytes row_words out_bytes k rows out = (a : Again) × ((k ≡ again_numbers a) × twice.Permitted bytes row_words out_bytes a rows out)
