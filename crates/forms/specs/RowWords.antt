-- Rows as words: "A row has five numbers: form, first element, element count, rows in its subtree with itself, operator element". Assumes nothing.
use Rattle.std.specs.Prelude.{ℕ, zero, suc, ◌+◌, ◌*◌, List, [], ◌∷◌, get_or, drop}
use Rattle.forms.specs.Tree.{Row}

-- a row's numbers
abbrev pub row_numbers : ℕ
row_numbers = 5

-- which of them is which; the first is the form
abbrev pub first_number : ℕ
first_number = 1

abbrev pub count_number : ℕ
count_number = 2

abbrev pub rows_number : ℕ
rows_number = 3

abbrev pub operator_number : ℕ
operator_number = 4

-- row k of a table of words
abbrev pub row_at : List ℕ → ℕ → Row
row_at words k =
    record {
      form = get_or words (row_numbers * k) 0;
      first = get_or words (row_numbers * k + first_number) 0;
      count = get_or words (row_numbers * k + count_number) 0;
      rows = get_or words (row_numbers * k + rows_number) 0;
      operator = get_or words (row_numbers * k + operator_number) 0;
    }

-- the first n rows of a table of words
unfoldable pub tree_rows_in : ℕ → List ℕ → List Row
tree_rows_in zero words = []
tree_rows_in (suc n) words = row_at words 0 ∷ tree_rows_in n (drop row_numbers words)

-- the words of rows, one after the other
abbrev pub words_of : List Row → List ℕ
words_of [] = []
words_of (r ∷ rs) = r.form ∷ r.first ∷ r.count ∷ r.rows ∷ r.operator ∷ words_of rs
