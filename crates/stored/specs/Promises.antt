-- What a stored table promises, as statements: proofs/Promises.antt proves each. Assumes nothing: these are definitions.
use Rattle.std.specs.Prelude.{ℕ, ◌≡◌, List}
use Rattle.stored.specs.StoredItems.{StoredItem}
use Rattle.stored.specs.Stored.{Form, Stored}

-- "Reading a stored table gives the items back": at most one list of legal items, with one package name, has given bytes, in any form.
abbrev pub OneReading : Type 0
OneReading = (F : Form) (s n m : List ℕ) (is js : List StoredItem) → Stored F s n is → Stored F s m js → (n ≡ m) × (is ≡ js)
