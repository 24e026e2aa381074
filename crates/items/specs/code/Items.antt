-- What the items of a package come to, over the tables: element table, records, links of names, twins and the rows of each piece, which stand
-- from its first element's row on. Assumes nothing.
use Rattle.std.specs.Prelude.{ℕ, zero, suc, ◌+◌, ◌-◌, ◌*◌, ◌/◌, min, Bool, cond, not, ◌&&◌, ◌||◌, List, eqb, ltb, length, get_or, drop, take}
use Rattle.std.proofs.lemmas.List.Edits.{sets}
use Rattle.places.specs.Places.{rows_in, kinds_of}
use Rattle.pieces.specs.Kinds.{any_down}
use Rattle.pieces.specs.Records.{record_words}
use Rattle.records.specs.Records.{word_at, is_item, is_claim}
use Rattle.names.specs.code.Language.{language_of}
use Rattle.folding.specs.declared.Outcome.{Outcome}
use Rattle.expressions.specs.Folds.{name_value, fold_of}
use Rattle.marks.specs.code.Marks.{constant_of, subtype_of, ranged_of}
use Rattle.values.specs.ValueWords.{value_words}
use Rattle.values.specs.declared.Value.{Value}
use Rattle.values.specs.declared.Value.TheVariants.{Without}
use Rattle.pieces.specs.Columns as column
use Rattle.states.specs.States as state
use Rattle.forms.specs.RowWords.{row_numbers, row_at}
use Rattle.pieces.specs.Classes as class

-- the rows of a piece: its own, its mark's, then those of its expression; or its range's and then those of the bounds
abbrev pub after_mark : ℕ
after_mark = 2

abbrev pub bound_at : ℕ
bound_at = 3

-- of n rows, those before the first of form 0
unfoldable pub rows_until : ℕ → List ℕ → ℕ
rows_until zero words = 0
rows_until (suc n) words = cond (eqb (get_or words 0 0) 0) 0 (suc (rows_until n (drop row_numbers words)))

-- how many rows piece i has
unfoldable pub rows_held : List ℕ → List ℕ → ℕ → ℕ
rows_held rows items i = rows_until (min (word_at items i column.count) (length rows / row_numbers - word_at items i column.first)) (drop (row_numbers * word_at items i column.first) rows)

-- the word downto stands in piece i
unfoldable pub goes_down_in : List ℕ → List ℕ → ℕ → Bool
goes_down_in table items i = any_down (take (word_at items i column.count) (drop (word_at items i column.first) (kinds_of (rows_in table) table)))

-- the name of piece i has another claim, the language's included
unfoldable pub doubled_in : List ℕ → List ℕ → List ℕ → List ℕ → ℕ → Bool
doubled_in text table twins items i =
    is_claim (word_at items i column.class) && (not (eqb (get_or twins i 0) 0) || not (eqb (language_of text table (word_at items i column.name)) 0))

-- the expression whose rows are those of piece i from its row a on, of m
unfoldable pub expression_at : List ℕ → List ℕ → List ℕ → List ℕ → ℕ → List ℕ → ℕ → ℕ → Outcome
expression_at text table items links i rows a m = fold_of text table items links i (take (row_numbers * (m - a)) (drop (row_numbers * (word_at items i column.first + a)) rows))

-- where the second bound's rows begin
unfoldable pub range_at : List ℕ → ℕ → List ℕ → ℕ → ℕ
range_at items i rows m = min m (bound_at + (row_at rows (word_at items i column.first + bound_at)).rows)

unfoldable pub bounded_at : List ℕ → List ℕ → List ℕ → List ℕ → ℕ → List ℕ → ℕ → Value → Value
bounded_at text table items links i rows m mark =
    cond (eqb m after_mark) (subtype_of mark)
    (ranged_of mark (expression_at text table items links i rows bound_at m) (expression_at text table items links i rows (range_at items i rows m) m) (goes_down_in table items i))

-- the mark is the name of row 1
unfoldable pub mark_in : List ℕ → List ℕ → List ℕ → List ℕ → ℕ → List ℕ → Value
mark_in text table items links i rows = name_value text table items links i (row_at rows (word_at items i column.first + 1)).first

-- a constant by its class, else a subtype
unfoldable pub formed_at : List ℕ → List ℕ → List ℕ → List ℕ → ℕ → List ℕ → ℕ → Value
formed_at text table items links i rows m =
    cond (ltb m after_mark) (Without state.broken)
    (cond (eqb (word_at items i column.class) class.constant)
    (constant_of (mark_in text table items links i rows) (expression_at text table items links i rows after_mark m))
    (bounded_at text table items links i rows m (mark_in text table items links i rows)))

-- what piece i comes to: 1, "no form fits"; 2, "its name has another claim anywhere"
unfoldable pub value_at : List ℕ → List ℕ → List ℕ → List ℕ → List ℕ → List ℕ → ℕ → Value
value_at text table links twins rows items i =
    cond (eqb (rows_held rows items i) 0) (Without state.broken)
    (cond (doubled_in text table twins items i) (Without state.doubled) (formed_at text table items links i rows (rows_held rows items i)))

-- the table with record i completed, if it is an item
unfoldable pub completed_at : List ℕ → List ℕ → List ℕ → List ℕ → List ℕ → List ℕ → ℕ → List ℕ
completed_at text table links twins rows items i =
    cond (is_item (word_at items i column.class)) (sets items (record_words * i + column.state) (value_words (value_at text table links twins rows items i))) items

-- m records from the i-th on, one after the other
unfoldable pub completed_from : List ℕ → List ℕ → List ℕ → List ℕ → List ℕ → List ℕ → ℕ → ℕ → List ℕ
completed_from text table links twins rows items i zero = items
completed_from text table links twins rows items i (suc m) = completed_from text table links twins rows (completed_at text table links twins rows items i) (suc i) m

-- the first n records
unfoldable pub completed : List ℕ → List ℕ → List ℕ → List ℕ → List ℕ → List ℕ → ℕ → List ℕ
completed text table links twins rows items n = completed_from text table links twins rows items 0 (min n (length items / record_words))
