-- What the element reader promises beside its contract, as statements: proofs/Promises.antt proves each. Assumes nothing: these are
-- definitions.
use Rattle.std.specs.Prelude.{ℕ, suc, ◌+◌, ◌-◌, ◌≤◌, ◌↔◌, ◌≡◌, true, false, cond, ◌&&◌, List, [], ◌∷◌, ◌++◌, Result, Ok, Err, leb, ltb, length, get_or}
use Rattle.classes.specs.Bytes.{hyphen}
use Rattle.classes.specs.Signs.{ends_line, separates}
use Rattle.elements.specs.declared.Kind.{Kind}
use Rattle.element_reading.specs.Rows.{ElementRow, rows_of}
use Rattle.places.specs.declared.ElementNumber.{ElementNumber}
use Rattle.refusals.specs.Refusals.{refusal_number, refusal_place}
use Rattle.refusals.specs.declared.Refusal.{Refusal}
use Rattle.element_reading.specs.Reading.{reading_of, table_of}
use Rattle.element_reading.specs.Given.{element_count, Taken, Given}
use Rattle.element_reading.specs.Permitted.{Permitted}

-- Any two permitted answers coincide, and so do the tables: what `read_elements` ensures leaves no choice.
abbrev pub NoChoice : Type 0
NoChoice = (s : List ℕ) (words : ℕ) (r r' : Result ElementNumber Refusal) (t t' : List ℕ) → Permitted s words r t → Permitted s words r' t' → (r ≡ r') × (t ≡ t')

-- An answer is permitted for every text and every table: the one that the later layers go on from.
abbrev pub Answered : Type 0
Answered = (s : List ℕ) (words : ℕ) → Permitted s words (reading_of s words) (table_of s words)

-- A text's elements are read exactly when none of 1, 3, 4 refuses it, and then all of them are.
abbrev pub ReadExactly : Type 0
ReadExactly = (s : List ℕ) (words : ℕ) (n : ElementNumber) → (reading_of s words ≡ Ok n) ↔ ((n.0 ≡ element_count s) × Taken s words)

-- Refusals 1, 3 and 4 are given exactly when 01 says, with its number and at its place.
abbrev pub RefusedExactly : Type 0
RefusedExactly = (s : List ℕ) (words : ℕ) (r : Refusal) → (reading_of s words ≡ Err r) ↔ Given s words (refusal_number r) (refusal_place r)

-- no byte of these ends a line
abbrev pub InsideLine : List ℕ → Type 0
InsideLine [] = Unit {0}
InsideLine (b ∷ s) = (ends_line b ≡ false) × InsideLine s

-- a line ends here, or the text does
abbrev pub Ended : List ℕ → Type 0
Ended [] = Unit {0}
Ended (b ∷ s) = ends_line b ≡ true

-- How a text that begins at the byte `at` is laid out: line ends, separators, comments up to a line's end, and elements, each of which is
-- the next row. An element has a byte at least and none that ends a line.
pub data Laid : ℕ → List ℕ → List ElementRow → Type 0 where
  nothing : {at : ℕ} → Laid at [] []
  line_end : {at b : ℕ} {s : List ℕ} {rs : List ElementRow} → ends_line b ≡ true → Laid (suc at) s rs → Laid at (b ∷ s) rs
  separator : {at b : ℕ} {s : List ℕ} {rs : List ElementRow} → separates b ≡ true → Laid (suc at) s rs → Laid at (b ∷ s) rs
  comment : {at : ℕ} {s u : List ℕ} {rs : List ElementRow} (c : List ℕ) → u ≡ c ++ s → (get_or c 0 0 ≡ hyphen) × (get_or c 1 0 ≡ hyphen) → InsideLine c → Ended s → Laid (at + length c) s rs → Laid at u rs
  element : {at : ℕ} {s u : List ℕ} {rs : List ElementRow} (k : Kind) (e : List ℕ) → u ≡ e ++ s → 1 ≤ length e → InsideLine e → Laid (at + length e) s rs → Laid at u (record { kind = k; first = at; size = length e } ∷ rs)

-- Nothing is lost: every byte of a text lies in exactly one element, or is a separator, a line end or part of a comment.
abbrev pub NothingLost : Type 0
NothingLost = (s : List ℕ) → Laid 0 s (rows_of s)

-- rows one after the other, from the byte `at` to the byte `end`, each of a byte at least
abbrev pub InOrder : ℕ → List ElementRow → ℕ → Type 0
InOrder at [] end = at ≤ end
InOrder at (r ∷ rs) end = (at ≤ r.first) × (1 ≤ r.size) × InOrder (r.first + r.size) rs end

-- The elements stand in order and do not overlap.
abbrev pub StandInOrder : Type 0
StandInOrder = (s : List ℕ) → InOrder 0 (rows_of s) (length s)

-- the same rows n bytes further on
abbrev pub moved : ℕ → List ElementRow → List ElementRow
moved n [] = []
moved n (r ∷ rs) = record { kind = r.kind; first = n + r.first; size = r.size } ∷ moved n rs

-- The elements of a text are those of its lines one after the other: a line end may stand anywhere, and what stands before it and after
-- it are two texts of their own.
abbrev pub LinesApart : Type 0
LinesApart = (s t : List ℕ) (b : ℕ) → ends_line b ≡ true → rows_of (s ++ b ∷ t) ≡ rows_of s ++ moved (suc (length s)) (rows_of t)

-- nothing stands before a line, or a line end just before it
abbrev pub StartsLine : List ℕ → Type 0
StartsLine [] = Unit {0}
StartsLine (b ∷ []) = ends_line b ≡ true
StartsLine (b ∷ d ∷ s) = StartsLine (d ∷ s)

-- the text has this line, which begins at the byte `at`
pub record HasLine (text line : List ℕ) (at : ℕ) : Type 0 where
  pub before : List ℕ
  pub behind : List ℕ
  pub whole : text ≡ before ++ (line ++ behind)
  pub place : at ≡ length before
  pub starts : StartsLine before
  pub inside : InsideLine line
  pub ended : Ended behind

-- the elements that begin within the n bytes from `at` on, each with its place counted from there
abbrev pub placed_from : ℕ → ElementRow → ElementRow
placed_from at r = record { kind = r.kind; first = r.first - at; size = r.size }

unfoldable pub elements_in : ℕ → ℕ → List ElementRow → List ElementRow
elements_in at n [] = []
elements_in at n (r ∷ rs) = cond (leb at r.first && ltb r.first (at + n)) (placed_from at r ∷ elements_in at n rs) (elements_in at n rs)

-- What a line's elements are depends on that line alone: any two texts that have it, wherever it stands in each and whatever else they hold,
-- have the same elements in it, at the same places from where it begins.
abbrev pub LineAlone : Type 0
LineAlone =
    (text text' line : List ℕ) (at at' : ℕ) → HasLine text line at → HasLine text' line at'
    → elements_in at (length line) (rows_of text) ≡ elements_in at' (length line) (rows_of text')
