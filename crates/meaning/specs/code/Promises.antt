-- What the survey promises of the states of items, as statements: proofs/Promises.antt proves each. Assumes nothing: these are definitions.
use Rattle.std.specs.Prelude.{ℕ, ◌+◌, ◌≤◌, ◌≡◌, ◌↔◌, true, false, List, [], ◌∷◌, ◌++◌, length}
use Rattle.states.specs.States as state
use Rattle.pieces.specs.Classes as class
use Rattle.records.specs.Records.{is_item}
use Rattle.records.specs.Tallies.{tally_of}
use Rattle.records.specs.Counting.{one_if}
use Rattle.values.specs.declared.Value.{Value}
use Rattle.values.specs.declared.Value.TheVariants.{Without}
use Rattle.meaning.specs.Elements.{Piece}
use Rattle.meaning.specs.Pieces.{pieces_of, class_of}
use Rattle.meaning.specs.Names.{own_doubled, Done}
use Rattle.meaning.specs.ItemForms.{ItemForm, constant, subtype, ranged, HasForm}
use Rattle.meaning.specs.FittingPieces.{FitsAForm}
use Rattle.meaning.specs.Meaning.{Comes, Come}
use Rattle.meaning.specs.code.PieceValues.{value_of, dones_from, records_of}

-- What the code's definitions make of a piece is what it comes to, and nothing else is; so of a text's pieces.
abbrev pub ComesExactly : Type 0
ComesExactly = (all : List Piece) (above : List Done) (p : Piece) (v : Value) → Comes all above p v ↔ (v ≡ value_of all above p)

abbrev pub ComeExactly : Type 0
ComeExactly = (all : List Piece) (above : List Done) (ps : List Piece) (ds : List Done) → Come all above ps ds ↔ (ds ≡ dones_from all above ps)

-- A piece has a form by its class: a constant's is of class 3, a subtype's of class 4.
abbrev pub item_form_class : ItemForm → ℕ
item_form_class (constant m x) = class.constant
item_form_class (subtype m) = class.subtype
item_form_class (ranged m x down y) = class.subtype

abbrev pub ClassByForm : Type 0
ClassByForm = (p : Piece) (i : ItemForm) → HasForm p i → class_of p ≡ item_form_class i

-- State 1: a piece is broken exactly when "no form fits", whatever stands around it.
abbrev pub BrokenExactly : Type 0
BrokenExactly = (all : List Piece) (above : List Done) (p : Piece) → (value_of all above p ≡ Without state.broken) ↔ (FitsAForm p → ⊥)

-- State 2: a piece is doubled exactly when a form fits and "its name has another claim anywhere, the language's included".
abbrev pub DoubledExactly : Type 0
DoubledExactly = (all : List Piece) (above : List Done) (p : Piece) → (value_of all above p ≡ Without state.doubled) ↔ (FitsAForm p × (own_doubled all p ≡ true))

-- Where a form fits and the name has no other claim, what has no number is in one of the states 3 to 10.
abbrev pub LaterElse : Type 0
LaterElse =
    (all : List Piece) (above : List Done) (p : Piece) (s : ℕ) → FitsAForm p → own_doubled all p ≡ false → value_of all above p ≡ Without s → (state.unfolded ≤ s) × (s ≤ state.range)

-- A piece without a number is in one of the states 1 to 10.
abbrev pub StatesKnown : Type 0
StatesKnown = (all : List Piece) (above : List Done) (p : Piece) (s : ℕ) → value_of all above p ≡ Without s → (state.broken ≤ s) × (s ≤ state.range)

-- how many pieces are items: "all pieces but headings and closings"
abbrev pub items_among : List Piece → ℕ
items_among [] = 0
items_among (p ∷ ps) = one_if (is_item (class_of p)) + items_among ps

abbrev pub sum : List ℕ → ℕ
sum [] = 0
sum (n ∷ ns) = n + sum ns

-- The eleven counts of the tally add up to the number of items, whatever stands after the records of a text: no item goes uncounted.
abbrev pub AllCounted : Type 0
AllCounted = (text rest : List ℕ) → sum (tally_of (records_of text ++ rest) (length (pieces_of text))).counts ≡ items_among (pieces_of text)
