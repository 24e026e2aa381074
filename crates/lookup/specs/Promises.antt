-- What a lookup promises beside its contract, as statements: proofs/Promises.antt proves each. Assumes nothing: these are definitions.
use Rattle.std.specs.Prelude.{ℕ, ◌+◌, ◌≤◌, ◌<◌, ◌≡◌, ◌⊎◌, ◌↔◌, List, length, Option}
use Rattle.places.specs.Places.{rows_in}
use Rattle.lookup.specs.Finds.{records_held, class_in, name_element, first_byte, size_in, Claims, Finds}
use Rattle.lookup.specs.Lookup.{found_of}

-- Any two permitted answers coincide.
abbrev pub OneAnswer : Type 0
OneAnswer = (text elements name items : List ℕ) (x y : Option ℕ) → Finds text elements name items x → Finds text elements name items y → x ≡ y

-- "a record pointing outside the tables claiming nothing": its name element has no row in the element table, or the row's bytes are not in the text.
abbrev pub OutsideClaimsNothing : Type 0
OutsideClaimsNothing =
    (text elements name items : List ℕ) (i : ℕ)
    → (rows_in elements ≤ name_element items i) ⊎ (length text < first_byte elements (name_element items i) + size_in elements (name_element items i))
    → Claims text elements name items i → ⊥

-- Of a record's numbers, class and name element alone count: where these agree, so does the answer, whatever first element and count point at.
abbrev pub ByNameElement : Type 0
ByNameElement =
    (text elements name items others : List ℕ) → records_held items ≡ records_held others
    → ((i : ℕ) → (class_in items i ≡ class_in others i) × (name_element items i ≡ name_element others i))
    → (x : Option ℕ) → Finds text elements name items x → Finds text elements name others x

-- The answer is the one that the search over the records comes to.
abbrev pub FoundExactly : Type 0
FoundExactly = (text elements name items : List ℕ) (x : Option ℕ) → Finds text elements name items x ↔ (x ≡ found_of text elements name items)
