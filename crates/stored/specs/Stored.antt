-- What a stored table is: the bytes of a package's name and items, and which are legal. No reading is spoken of here. Assumes nothing.
use Rattle.std.specs.Prelude.{ℕ, ◌≤◌, ◌≡◌, Bool, true, false, not, ◌&&◌, ◌||◌, List, [], ◌∷◌, ◌++◌, map, leb, eqb, ℤ, nat_abs, length}
use Rattle.integers.specs.Integers.{largest}
use Rattle.names.specs.Language.{language_names}
use Rattle.stored.specs.Fields.{Field, fields_bytes, all_writable}
use Rattle.stored.specs.StoredItems.{StoredItem, item_field, name_field}
use Rattle.stored.specs.LegalNames.{legal_name}
use Rattle.stored.specs.declared.StoredValue.{StoredValue}
use Rattle.stored.specs.declared.StoredValue.TheVariants.{Number, Truth, Range, Truths}

-- What the requests vary: which bytes are a legal name (04), the names that the language claims, which values a form holds, and the fields that it
-- begins with (11).
pub record Form : Type 0 where
  pub legal : List ℕ → Bool
  pub language : List (List ℕ)
  pub admits : StoredValue → Bool
  pub head : List Field

-- "Tag 1 holds the package name. Then one field to an item in order": after the form's head
abbrev pub stored_fields : Form → List ℕ → List StoredItem → List Field
stored_fields F n items = F.head ++ (name_field n ∷ map item_field items)

unfoldable pub stored_bytes : Form → List ℕ → List StoredItem → List ℕ
stored_bytes F n items = fields_bytes (stored_fields F n items)

-- two names are the same bytes
unfoldable pub same_bytes : List ℕ → List ℕ → Bool
same_bytes [] [] = true
same_bytes [] (b ∷ t) = false
same_bytes (a ∷ s) [] = false
same_bytes (a ∷ s) (b ∷ t) = eqb a b && same_bytes s t

unfoldable pub among : List ℕ → List (List ℕ) → Bool
among n [] = false
among n (m ∷ ms) = same_bytes n m || among n ms

-- "the items' all different"
unfoldable pub distinct : List (List ℕ) → Bool
distinct [] = true
distinct (n ∷ ns) = not (among n ns) && distinct ns

abbrev pub item_names : List StoredItem → List (List ℕ)
item_names is = map (λ i. i.name) is

-- "numbers up to 2147483647 in size"
abbrev pub small : ℤ → Bool
small z = leb (nat_abs z) largest

unfoldable pub sized : StoredValue → Bool
sized (Number z) = small z
sized (Truth t) = true
sized (Range low high) = small low && small high
sized Truths = true

-- an item by itself: "with legal names, .. none the language's"
unfoldable pub item_legal : Form → StoredItem → Bool
item_legal F i = sized i.value && (F.admits i.value && (F.legal i.name && not (among i.name F.language)))

unfoldable pub all_legal : Form → List StoredItem → Bool
all_legal F [] = true
all_legal F (i ∷ is) = item_legal F i && all_legal F is

-- "at most 1,024 items"
abbrev pub most_items : ℕ
most_items = 1024

pub record Legal (F : Form) (n : List ℕ) (items : List StoredItem) : Type 0 where
  pub titled : F.legal n ≡ true
  pub each : all_legal F items ≡ true
  pub few : length items ≤ most_items
  pub different : distinct (item_names items) ≡ true
  pub written : all_writable (stored_fields F n items) ≡ true

-- "bytes that .. are exactly one such table"
pub record Stored (F : Form) (s n : List ℕ) (items : List StoredItem) : Type 0 where
  pub bytes : s ≡ stored_bytes F n items
  pub legal : Legal F n items

-- form one, of request 01: it holds every value, and begins with the package's name
unfoldable pub form_one : Form
form_one = record { legal = legal_name; language = language_names; admits = λ v. true; head = [] }
