-- The records of pieces before any item is read, and the refusals 9 and 10: "one record to a piece (class 1 to 5 ...; first element, count, name
-- element, state; in state 0 kind ... and two numbers; what is absent is 0)". Assumes nothing.
use Rattle.std.specs.Prelude.{ℕ, ◌+◌, ◌-◌, ◌/◌, min, cond, List, [], ◌∷◌, ◌++◌, eqb, ltb, length, replicate, Result, Ok, Err}
use Rattle.places.specs.Sizes.{most_pieces}
use Rattle.pieces.specs.Kinds.{kind_pieces, piece_class}
pub use Rattle.pieces.specs.Columns.{record_words}
use Rattle.places.specs.Places.{rows_in, kinds_of}
use Rattle.pieces.specs.declared.PieceClass.{PieceClass}
use Rattle.pieces.specs.declared.NotRecorded.{NotRecorded}
use Rattle.pieces.specs.declared.NotRecorded.TheVariants.{TooMany, TableShort}

-- the name's element, of a piece that begins at the element `at`
unfoldable pub name_of : ℕ → ℕ → ℕ
name_of at place = cond (eqb place 0) 0 (at + place)

-- the words of a piece's record
unfoldable pub pending_record : ℕ → ℕ → PieceClass → List ℕ
pending_record at count m = m.class ∷ at ∷ count ∷ name_of at m.place ∷ 0 ∷ 0 ∷ 0 ∷ 0 ∷ []

-- the records one after the other
unfoldable pub pending_records : ℕ → List (List ℕ) → List ℕ
pending_records at [] = []
pending_records at (p ∷ ps) = pending_record at (length p) (piece_class p) ++ pending_records (at + length p) ps

-- the pieces of the elements that count: no more than the table has
unfoldable pub pieces_in : List ℕ → ℕ → List (List ℕ)
pieces_in table count = kind_pieces (kinds_of (min count (rows_in table)) table)

-- n pieces: 9, "more than 1,024 pieces"; 10, "item table short", "rows it has"
unfoldable pub recording : ℕ → ℕ → Result ℕ NotRecorded
recording n words = cond (ltb most_pieces n) (Err TooMany) (cond (ltb (words / record_words) n) (Err (TableShort (words / record_words))) (Ok n))

-- "On refusal every lent table is all zeros. On success unused rows are zeros."
abbrev pub holds : ℕ → List ℕ → Result ℕ NotRecorded → List ℕ
holds words rs (Ok n) = rs ++ replicate (words - length rs) 0
holds words rs (Err r) = replicate words 0

unfoldable pub record_table : List (List ℕ) → ℕ → List ℕ
record_table ps words = holds words (pending_records 0 ps) (recording (length ps) words)
