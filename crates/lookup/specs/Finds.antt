-- "a lookup by name gives the first item that claims it, or none, a record pointing outside the tables claiming nothing". The tables are of any
-- content. Assumes nothing: these are definitions.
use Rattle.std.specs.Prelude.{ℕ, ◌+◌, ◌/◌, ◌≤◌, ◌<◌, ◌≡◌, ◌⊎◌, true, false, List, length, take, drop, Option, Some, None}
use Rattle.places.specs.Places.{kind_column, first_column, size_column, rows_in, cell_at}
use Rattle.same_names.specs.Spelling.{spelt}
use Rattle.pieces.specs.Records.{record_words}
use Rattle.records.specs.Records.{word_at, is_claim}
use Rattle.pieces.specs.Columns as column
use Rattle.places.specs.Kinds.{identifier_kind, extended_kind}

-- how many records there are; of record i, its class and its name element
abbrev pub records_held : List ℕ → ℕ
records_held items = length items / record_words

abbrev pub class_in : List ℕ → ℕ → ℕ
class_in items i = word_at items i column.class

abbrev pub name_element : List ℕ → ℕ → ℕ
name_element items i = word_at items i column.name

-- element e of the table: "kind, first byte and length"
abbrev pub kind_in : List ℕ → ℕ → ℕ
kind_in elements e = cell_at elements e kind_column

abbrev pub first_byte : List ℕ → ℕ → ℕ
first_byte elements e = cell_at elements e first_column

abbrev pub size_in : List ℕ → ℕ → ℕ
size_in elements e = cell_at elements e size_column

-- it has a row, and its bytes stand in the text
abbrev pub InsideText : List ℕ → List ℕ → ℕ → Type 0
InsideText text elements e = (e < rows_in elements) × (first_byte elements e + size_in elements e ≤ length text)

-- it is that name: an identifier, case aside; or an extended one, which keeps it
abbrev pub Spells : List ℕ → List ℕ → ℕ → List ℕ → Type 0
Spells text elements e name =
    ((kind_in elements e ≡ identifier_kind) × (spelt true (take (size_in elements e) (drop (first_byte elements e) text)) name ≡ true))
    ⊎ ((kind_in elements e ≡ extended_kind) × (spelt false (take (size_in elements e) (drop (first_byte elements e) text)) name ≡ true))

-- record i claims the name: a constant or a subtype, whose name element is that name; "a record pointing outside the tables claiming nothing"
unfoldable pub Claims : List ℕ → List ℕ → List ℕ → List ℕ → ℕ → Type 0
Claims text elements name items i =
    (is_claim (class_in items i) ≡ true) × InsideText text elements (name_element items i) × Spells text elements (name_element items i) name

-- none of the first n records does
abbrev pub NoneOfFirst : List ℕ → List ℕ → List ℕ → List ℕ → ℕ → Type 0
NoneOfFirst text elements name items n = (j : ℕ) → j < n → Claims text elements name items j → ⊥

-- what a lookup may answer: "the first item that claims it, or none"
unfoldable pub Finds : List ℕ → List ℕ → List ℕ → List ℕ → Option ℕ → Type 0
Finds text elements name items (Some k) = (k < records_held items) × Claims text elements name items k × NoneOfFirst text elements name items k
Finds text elements name items None = NoneOfFirst text elements name items (records_held items)
