-- Expressions worked out by hand, and what `expressions::folded` answers of each by its contract, in 01's numbers: proofs/Folded.antt computes it.
-- Assumes nothing: these are definitions.
use Rattle.std.specs.Prelude.{ℕ, ◌≡◌, List, [], ◌∷◌, ◌++◌, pos, neg_ℤ}
use Prim.Native.String.{String}
use Rattle.words.specs.Words.{bytes_of}
use Rattle.element_reading.specs.Rows.{rows_of}
use Rattle.element_reading.specs.Table.{cells}
use Rattle.meaning.specs.code.PieceValues.{records_of}
use Rattle.integers.specs.FoldedNumbers.{Numbers, numbers_of}
use Rattle.expressions.specs.Folds.{folded_of}

-- a package whose one item is a constant with this expression, which is its piece 1
abbrev pub constant_with : String → List ℕ
constant_with expression = bytes_of "package p is constant c : integer := " ++ bytes_of expression ++ bytes_of "; end;"

-- the expression, whose rows these are, folds to these numbers over the text's elements and records; no name in it, so no links
abbrev pub FoldsTo : String → List ℕ → Numbers → Type 0
FoldsTo expression rows n =
    numbers_of (folded_of (constant_with expression) (cells (rows_of (constant_with expression))) (records_of (constant_with expression)) [] 1 rows) ≡ n

-- "an integer, a truth, or the state that stopped it". A row has "form, first element, element count, rows in its subtree with itself, operator
-- element"; the expression's first element is number 5 of its piece.
abbrev pub ThreeCases : Type 0
ThreeCases =
    FoldsTo "-5 mod 3" (28 ∷ 5 ∷ 4 ∷ 4 ∷ 5 ∷ 29 ∷ 6 ∷ 3 ∷ 3 ∷ 7 ∷ 27 ∷ 6 ∷ 1 ∷ 1 ∷ 6 ∷ 27 ∷ 8 ∷ 1 ∷ 1 ∷ 8 ∷ []) (record { state = 0; kind = 1; number = neg_ℤ (pos 2) })
    × FoldsTo "1 < 2" (29 ∷ 5 ∷ 3 ∷ 3 ∷ 6 ∷ 27 ∷ 5 ∷ 1 ∷ 1 ∷ 5 ∷ 27 ∷ 7 ∷ 1 ∷ 1 ∷ 7 ∷ []) (record { state = 0; kind = 2; number = pos 1 })
    × FoldsTo "1 / 0" (29 ∷ 5 ∷ 3 ∷ 3 ∷ 6 ∷ 27 ∷ 5 ∷ 1 ∷ 1 ∷ 5 ∷ 27 ∷ 7 ∷ 1 ∷ 1 ∷ 7 ∷ []) (record { state = 7; kind = 0; number = pos 0 })
