-- What the proofs of the third demand go by, over the records and the places that the definitions have: proofs/Texts.antt, proofs/Promises.antt
-- and proofs/Common.antt prove the statements. Assumes nothing: these are definitions.
use Rattle.std.specs.Prelude.{ℕ, ◌≤◌, ◌≡◌, ◌⊎◌, ◌↔◌, List, ◌++◌, length}
use Rattle.records.specs.Records.{word_at}
use Rattle.pieces.specs.Columns as column
use Rattle.element_reading.specs.Rows.{lines_of, rows_of}
use Rattle.element_reading.specs.Promises.{InsideLine, Ended, StartsLine}
use Rattle.meaning.specs.Pieces.{elements_of, pieces_of}
use Rattle.meaning.specs.code.PieceValues.{records_of}
use Rattle.damage.specs.PlacedElements.{In, Placed, placed, PlacedPiece, parts_of, bare, bare_each, SameEach, PieceOf, lines_above, line_number, firsts_in, firsts_of}
use Rattle.damage.specs.Damage.{OneLine, olds, news, NoneChanged, Common, Undisturbed, ClosedAbove, OpenedBelow}

-- The elements and the pieces with their places are those of the text, and each element's first byte is its line's and its place in the line.
abbrev pub PlacesAdded : Type 0
PlacesAdded =
    (before middle after : List ℕ) → StartsLine before → InsideLine middle → Ended after
    → (bare (placed before middle after) ≡ elements_of (before ++ (middle ++ after)) (rows_of (before ++ (middle ++ after))))
    × (bare_each (parts_of (placed before middle after)) ≡ pieces_of (before ++ (middle ++ after)))
    × (firsts_in (lines_above before) (lines_of (before ++ (middle ++ after))) (placed before middle after) ≡ firsts_of (rows_of (before ++ (middle ++ after))))

-- In two texts that differ inside one line, elements agree in their line exactly when they agree in its number from the text's start.
abbrev pub LinesAgree : Type 0
LinesAgree =
    (before middle changed after : List ℕ) → StartsLine before → InsideLine middle → InsideLine changed → Ended after
    → (x y : Placed) → In x (placed before middle after) → In y (placed before changed after)
    → (x.line ≡ y.line) ↔ (line_number (lines_above before) x.line ≡ line_number (lines_above before) y.line)

-- "it has the same state, kind and number in both": the last four words of its record in each of the two item tables, whatever stands after
-- the records
abbrev pub SameAnswer : Type 0
SameAnswer =
    (s t : List ℕ) (d : OneLine s t) (p q : PlacedPiece) (i : PieceOf (olds d) p) (j : PieceOf (news d) q) → SameEach p q → NoneChanged p → Undisturbed (olds d) (news d) p
    → (rest others : List ℕ) (k : ℕ) → column.state ≤ k → k ≤ column.high → word_at (records_of s ++ rest) (length i.above) k ≡ word_at (records_of t ++ others) (length j.above) k

-- 'Pieces closed by a semicolon above the line, and pieces opened below it by "constant", "subtype" or "end", are always common.'
abbrev pub AlwaysCommon : Type 0
AlwaysCommon =
    (s t : List ℕ) (d : OneLine s t) (p : PlacedPiece) → In p (olds d) ⊎ In p (news d) → ClosedAbove p ⊎ OpenedBelow p → Common (olds d) (news d) p
