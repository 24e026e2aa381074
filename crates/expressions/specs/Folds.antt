-- An expression of piece i, over the tables: element numbers are the piece's own, counted from its first. Assumes nothing.
use Rattle.std.specs.Prelude.{ℕ, ◌+◌, ◌-◌, ◌/◌, min, cond, List, ltb, length}
use Rattle.places.specs.Sizes.{most_elements}
use Rattle.places.specs.Places.{cell_at}
use Rattle.places.specs.Places as places
use Rattle.records.specs.Records.{word_at}
use Rattle.forms.specs.Tree.{Row}
use Rattle.integers.specs.declared.Folded.{Folded}
use Rattle.folding.specs.code.Outcomes.{settled_of}
use Rattle.folding.specs.declared.Outcome.{Outcome}
use Rattle.operands.specs.code.Operands.{literal_in}
use Rattle.marks.specs.code.Marks.{operand_of}
use Rattle.values.specs.declared.Value.{Value}
use Rattle.uses.specs.code.Uses.{use_in}
use Rattle.pieces.specs.Columns as column
use Rattle.forms.specs.RowWords.{row_numbers, row_at, tree_rows_in}
use Rattle.expressions.specs.code.Expressions.{row_outcome, outcome_of}

-- where element j of piece i stands in the element table; after its last, where the piece has none
unfoldable pub element_in : List ℕ → List ℕ → ℕ → ℕ → ℕ
element_in table items i j =
    cond (ltb j (min (word_at items i column.count) (places.rows_in table - word_at items i column.first))) (word_at items i column.first + j) (places.rows_in table)

-- element j of piece i used as a name
unfoldable pub name_value : List ℕ → List ℕ → List ℕ → List ℕ → ℕ → ℕ → Value
name_value text table items links i j = use_in text table items links i (element_in table items i j)

unfoldable pub name_in : List ℕ → List ℕ → List ℕ → List ℕ → ℕ → ℕ → Outcome
name_in text table items links i j = operand_of (name_value text table items links i j)

unfoldable pub literal_at : List ℕ → List ℕ → List ℕ → ℕ → ℕ → Outcome
literal_at text table items i j = literal_in text table (element_in table items i j)

unfoldable pub kind_in_piece : List ℕ → List ℕ → ℕ → ℕ → ℕ
kind_in_piece table items i j = cell_at table (element_in table items i j) places.kind_column

abbrev pub folded_row : List ℕ → List ℕ → List ℕ → List ℕ → ℕ → Row → Outcome → Outcome → Outcome
folded_row text table items links i r x y = row_outcome (name_in text table items links i) (literal_at text table items i) (kind_in_piece table items i) r x y

abbrev pub expression_in : List ℕ → List ℕ → List ℕ → List ℕ → ℕ → List Row → Outcome
expression_in text table items links i rs = outcome_of (name_in text table items links i) (literal_at text table items i) (kind_in_piece table items i) rs

-- where the right operand of row k stands, of n rows: after the left one's subtree
unfoldable pub right_of : List ℕ → ℕ → ℕ → ℕ
right_of rows n k = min n (k + 1 + (row_at rows (k + 1)).rows)

-- the expression that the rows of a table are; none has more rows than a text has elements
unfoldable pub fold_of : List ℕ → List ℕ → List ℕ → List ℕ → ℕ → List ℕ → Outcome
fold_of text table items links i rows = expression_in text table items links i (tree_rows_in (min (length rows / row_numbers) most_elements) rows)

-- "The folded result of an expression is an integer, a truth, or the state that stopped it."
unfoldable pub folded_of : List ℕ → List ℕ → List ℕ → List ℕ → ℕ → List ℕ → Folded
folded_of text table items links i rows = settled_of (fold_of text table items links i rows)
