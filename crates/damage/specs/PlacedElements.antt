-- The elements of a text around a change, with the places where they stand, and its pieces as such elements (01, "Pieces, items, states": "two
-- elements are the same if line number, place in the line and bytes agree"). Assumes nothing.
use Rattle.std.specs.Prelude.{ℕ, zero, suc, ◌+◌, ◌-◌, ◌≡◌, ◌⊎◌, Bool, List, [], ◌∷◌, ◌++◌, length, take, drop}
use Rattle.elements.specs.Kinds.{kind_number}
use Rattle.element_reading.specs.Rows.{ElementRow, lines_of, rows_of}
use Rattle.pieces.specs.Cutting.{cut}
use Rattle.meaning.specs.Elements.{Element, Piece}
use Rattle.meaning.specs.Pieces.{cuts_after, cuts_before}

-- one of a list
abbrev pub In : {A : Type 0} → A → List A → Type 0
In x [] = ⊥
In x (y ∷ l) = (y ≡ x) ⊎ In x l

-- "line number", from 0: of a line above the change counted from the text's start, of one below it from the change's end, of one of the
-- change from its start
pub data LineNumber : Type 0 where
  Above : ℕ → LineNumber
  Changed : ℕ → LineNumber
  Below : ℕ → LineNumber

-- an element, the number of its line and its place in the line, from 0
pub record Placed : Type 0 where
  pub line : LineNumber
  pub place : ℕ
  pub element : Element

-- rows of line n, whose bytes are l
unfoldable pub placed_rows : LineNumber → List ℕ → List ElementRow → List Placed
placed_rows n l [] = []
placed_rows n l (r ∷ rs) =
    record { line = n; place = r.first; element = record { kind = kind_number r.kind; bytes = take r.size (drop r.first l) } } ∷ placed_rows n l rs

-- the elements of lines, of which the first has number n: "No element crosses a line end."
unfoldable pub placed_lines : (ℕ → LineNumber) → ℕ → List (List ℕ) → List Placed
placed_lines of n [] = []
placed_lines of n (l ∷ ls) = placed_rows (of n) l (rows_of l) ++ placed_lines of (suc n) ls

-- the elements of a text: those of the bytes before the change, of the change, and after it
unfoldable pub placed : List ℕ → List ℕ → List ℕ → List Placed
placed before middle after = placed_lines Above 0 (lines_of before) ++ (placed_lines Changed 0 (lines_of middle) ++ placed_lines Below 0 (lines_of after))

-- a piece whose elements have their places
abbrev pub PlacedPiece : Type 0
PlacedPiece = List Placed

abbrev pub closes_part : Placed → Bool
closes_part x = cuts_after x.element

abbrev pub opens_part : Placed → Bool
opens_part x = cuts_before x.element

-- "Elements are cut after each `;` and before each of the words constant, subtype, end."
unfoldable pub parts_of : List Placed → List PlacedPiece
parts_of elements = cut closes_part opens_part elements

-- without their places
unfoldable pub bare : PlacedPiece → Piece
bare [] = []
bare (x ∷ p) = x.element ∷ bare p

unfoldable pub bare_each : List PlacedPiece → List Piece
bare_each [] = []
bare_each (p ∷ ps) = bare p ∷ bare_each ps

-- "two elements are the same if line number, place in the line and bytes agree"
abbrev pub Same : Placed → Placed → Type 0
Same x y = (x.line ≡ y.line) × (x.place ≡ y.place) × (x.element.bytes ≡ y.element.bytes)

-- "element for element"
abbrev pub SameEach : PlacedPiece → PlacedPiece → Type 0
SameEach [] [] = Unit {0}
SameEach [] (y ∷ q) = ⊥
SameEach (x ∷ p) [] = ⊥
SameEach (x ∷ p) (y ∷ q) = Same x y × SameEach p q

-- one of the pieces of a text: those above it, and those below
pub record PieceOf (pieces : List PlacedPiece) (p : PlacedPiece) : Type 0 where
  pub above : List PlacedPiece
  pub below : List PlacedPiece
  pub split : pieces ≡ above ++ p ∷ below

-- "one record to a piece": the number of its record
abbrev pub record_after : List PlacedPiece → ℕ
record_after above = length above

-- ---- what says that lines and places are the text's

-- how many lines these bytes are, at the end of which a line begins
abbrev pub lines_above : List ℕ → ℕ
lines_above before = length (lines_of before) - 1

-- 01's line number, counted from the text's start throughout, where n lines stand above the change
abbrev pub line_number : ℕ → LineNumber → ℕ
line_number n (Above k) = k
line_number n (Changed k) = n + k
line_number n (Below k) = n + k

-- the byte at which line m of lines begins
unfoldable pub start_of : ℕ → List (List ℕ) → ℕ
start_of zero ls = 0
start_of (suc m) [] = 0
start_of (suc m) (l ∷ ls) = suc (length l) + start_of m ls

-- the first bytes of elements, by their lines and places
unfoldable pub firsts_in : ℕ → List (List ℕ) → List Placed → List ℕ
firsts_in n ls [] = []
firsts_in n ls (x ∷ p) = (start_of (line_number n x.line) ls + x.place) ∷ firsts_in n ls p

-- the first bytes of rows
unfoldable pub firsts_of : List ElementRow → List ℕ
firsts_of [] = []
firsts_of (r ∷ rs) = r.first ∷ firsts_of rs
