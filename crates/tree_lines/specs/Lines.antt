-- The listing of a tree, line by line, as bytes: what the program `strict` prints. Assumes nothing.
use Rattle.std.specs.Prelude.{ℕ, zero, suc, ◌*◌, ◌/◌, min, cond, List, [], ◌∷◌, ◌++◌, eqb, ltb, length, get_or, take, drop}
use Rattle.words.specs.Words.{bytes_of}
use Rattle.forms.specs.RowWords.{row_numbers}
use Rattle.puts.specs.Decimals.{decimal_of, fields_of, line_feed}
use Rattle.puts.specs.Lines.{lines_from}
use Rattle.refused_line.specs.Refused.{counted, line_by, lines_by}

-- where the strict reading's answer has whether the file passes, and the first row that is not supported
abbrev pub passes : ℕ
passes = 3

abbrev pub failed_row : ℕ
failed_row = 4

-- "`rows COUNT passes yes`", or "`rows COUNT passes no at ROW`, the first row that is not supported"
unfoldable pub fails_of : ℕ → List ℕ
fails_of r = bytes_of " passes no at " ++ (decimal_of r ++ (line_feed ∷ []))

unfoldable pub verdict_text : ℕ → ℕ → List ℕ
verdict_text p r = cond (eqb p 1) (bytes_of " passes yes\n") (fails_of r)

unfoldable pub head_of : ℕ → ℕ → ℕ → List ℕ
head_of rows p r = bytes_of "rows " ++ (decimal_of rows ++ verdict_text p r)

-- the numbers of a row, none where the table has no such row
unfoldable pub numbers_at : List ℕ → ℕ → List ℕ
numbers_at tree i = cond (ltb i (length tree / row_numbers)) (take row_numbers (drop (row_numbers * i) tree)) []

-- "`ROW FORM FIRST COUNT SUBTREE OPERATOR`: `ROW` counts from 0; the other five are the row's numbers as 01 lists them."
unfoldable pub row_text : List ℕ → ℕ → List ℕ
row_text tree i = decimal_of i ++ (fields_of (numbers_at tree i) ++ (line_feed ∷ []))

-- "The head, then one line to each row of the tree, in table order": the lines by their numbers
unfoldable pub listed_line : List ℕ → List ℕ → ℕ → List ℕ
listed_line tree answer zero = head_of (get_or answer counted 0) (get_or answer passes 0) (get_or answer failed_row 0)
listed_line tree answer (suc i) = row_text tree i

-- those of any answer, and how many there are: no more rows are listed than the table has
unfoldable pub tree_line : List ℕ → List ℕ → ℕ → List ℕ
tree_line tree answer = line_by answer (listed_line tree answer)

unfoldable pub tree_lines : List ℕ → List ℕ → ℕ
tree_lines tree answer = lines_by answer (suc (min (get_or answer counted 0) (length tree / row_numbers)))

-- the listing: all of them
unfoldable pub tree_listing : List ℕ → List ℕ → List ℕ
tree_listing tree answer = lines_from (tree_line tree answer) 0 (tree_lines tree answer)
