-- What a lookup by name finds in the tables of a text that was surveyed, said of the text's pieces alone: the first that claims the name, or
-- none. A name is given as bytes. proofs/Promises.antt proves the statements. Assumes nothing: these are definitions.
use Rattle.std.specs.Prelude.{ℕ, ◌/◌, ◌≤◌, ◌<◌, ◌≡◌, ◌⊎◌, ◌↔◌, true, List, [], ◌∷◌, ◌++◌, length, get_or, Option, Some, None}
use Rattle.places.specs.Kinds.{identifier_kind, extended_kind}
use Rattle.classes.specs.Signs as sign
use Rattle.classes.specs.Bytes.{lower}
use Rattle.classes.specs.Signs as sign
use Rattle.places.specs.Kinds.{identifier_kind, extended_kind}
use Rattle.pieces.specs.Kinds.{word_constant, word_subtype}
use Rattle.pieces.specs.Records.{record_words}
use Rattle.meaning.specs.Elements.{Element, Piece, at}
use Rattle.meaning.specs.Pieces.{pieces_of}
use Rattle.meaning.specs.Names.{claims}
use Rattle.lookup.specs.Finds.{Finds}
use Rattle.lookup.specs.Structs.{struct_words}
use Rattle.lookup.specs.declared.Item.{Item}
use Rattle.survey_reading.specs.Permitted.{LeavesTables}
use Rattle.kawhiluhe.specs.AnswerNumbers.{found_number}

-- bytes, each letter as its lower case
unfoldable pub lowered : List ℕ → List ℕ
lowered [] = []
lowered (b ∷ l) = lower b ∷ lowered l

-- an element is the name that the bytes spell: an identifier has these bytes, case aside; an extended one has just these, its two backslashes
-- among them; any other element is no name
abbrev pub IsCalled : List ℕ → Element → Type 0
IsCalled name x = ((x.kind ≡ identifier_kind) × (lowered x.bytes ≡ lowered name)) ⊎ ((x.kind ≡ extended_kind) × (x.bytes ≡ name))

-- "A piece claims a name if it begins with constant or subtype and then a name, broken or not."
abbrev pub ClaimsName : List ℕ → Piece → Type 0
ClaimsName name p = (((at p 0).kind ≡ word_constant) ⊎ ((at p 0).kind ≡ word_subtype)) × IsCalled name (at p 1)

-- none of these does
abbrev pub NoneClaims : List ℕ → List Piece → Type 0
NoneClaims name [] = Unit {0}
NoneClaims name (p ∷ ps) = (ClaimsName name p → ⊥) × NoneClaims name ps

-- number k of the pieces, from 0, does, and none before it
pub record FirstClaims (name : List ℕ) (ps : List Piece) (k : ℕ) : Type 0 where
  pub before : List Piece
  pub piece : Piece
  pub after : List Piece
  pub split : ps ≡ before ++ piece ∷ after
  pub number : length before ≡ k
  pub claimed : ClaimsName name piece
  pub unclaimed : NoneClaims name before

-- An answer of a lookup says this of pieces: the first that claims the name, or that none does.
abbrev pub SaysFirst : List ℕ → List Piece → Option ℕ → Type 0
SaysFirst name ps f = ((k : ℕ) → (f ≡ Some k) ↔ FirstClaims name ps k) × ((f ≡ None) ↔ NoneClaims name ps)

-- "a lookup by name gives the first item that claims it, or none": over the tables that a survey leaves, for every text that is surveyed with
-- tables of any size, for every name, and for every answer that the lookup's contract permits
abbrev pub FindsFirst : Type 0
FindsFirst = (text elements items name : List ℕ) (f : Option ℕ) → LeavesTables text elements items → Finds text elements name items f → SaysFirst name (pieces_of text) f

-- "Extended identifiers .. equal no basic identifier": what is found is an extended identifier exactly where the name that is looked up begins
-- with a backslash
abbrev pub ByBackslash : Type 0
ByBackslash = (text name : List ℕ) (k : ℕ) (f : FirstClaims name (pieces_of text) k) → ((at f.piece 1).kind ≡ extended_kind) ↔ (get_or name 0 0 ≡ sign.backslash)

-- The same of `lookup_items`: item structs that hold the words of that table.
abbrev pub FindsInStructs : Type 0
FindsInStructs =
    (text elements items name : List ℕ) (structs : List Item) (f : Option ℕ) → LeavesTables text elements items → struct_words structs ≡ items
    → Finds text elements name (struct_words structs) f → SaysFirst name (pieces_of text) f

-- The same of the library, which answers the number of a record, or how many records the table has: the first piece that claims the name, or past
-- them all.
abbrev pub FindsNumber : Type 0
FindsNumber =
    (text elements items name : List ℕ) (f : Option ℕ) → LeavesTables text elements items → Finds text elements name items f
    → ((k : ℕ) → k < length (pieces_of text) → (found_number f (length items / record_words) ≡ k) ↔ FirstClaims name (pieces_of text) k)
    × ((length (pieces_of text) ≤ found_number f (length items / record_words)) ↔ NoneClaims name (pieces_of text))

-- the name that bytes spell, as an element: basic, and extended
abbrev pub basic : List ℕ → Element
basic name = record { kind = identifier_kind; bytes = name }

abbrev pub extended_element : List ℕ → Element
extended_element name = record { kind = extended_kind; bytes = name }

-- A piece claims a name given as bytes exactly when, by the survey's own rule on claims, it claims the identifier or the extended identifier
-- of these bytes.
abbrev pub OneRule : Type 0
OneRule = (name : List ℕ) (p : Piece) → ClaimsName name p ↔ ((claims (basic name) p ≡ true) ⊎ (claims (extended_element name) p ≡ true))
