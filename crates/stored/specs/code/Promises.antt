-- What the code's reading of a stored table is, as statements: proofs/Promises.antt proves each. Assumes nothing: these are definitions.
use Rattle.std.specs.Prelude.{ℕ, ◌<◌, ◌≡◌, ◌↔◌, List, get_or}
use Rattle.stored.specs.Fields.{all_bytes}
use Rattle.stored.specs.StoredItems.{StoredItem}
use Rattle.stored.specs.Stored.{Form, Stored}
use Rattle.stored.specs.code.Decode.{broken, table, decode}

-- each of them is a byte
abbrev pub Bytes : List ℕ → Type 0
Bytes s = (i : ℕ) → get_or s i 0 < all_bytes

-- The decoder finds exactly the items whose bytes these are.
abbrev pub DecoderFinds : Type 0
DecoderFinds = (F : Form) (s n : List ℕ) (is : List StoredItem) → Bytes s → (decode F s ≡ table n is) ↔ Stored F s n is

-- It finds nothing exactly where there are none.
abbrev pub FindsNothing : Type 0
FindsNothing = (F : Form) (s : List ℕ) → Bytes s → (decode F s ≡ broken) ↔ ((n : List ℕ) (is : List StoredItem) → Stored F s n is → ⊥)
