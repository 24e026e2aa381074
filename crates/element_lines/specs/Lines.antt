-- The listing of a text's elements, line by line, as bytes: what the program `strict --elements` prints. Assumes nothing.
use Rattle.std.specs.Prelude.{ℕ, zero, suc, min, cond, List, [], ◌∷◌, ◌++◌, ltb, get_or}
use Prim.Native.String.{String}
use Rattle.words.specs.Words.{bytes_of}
use Rattle.places.specs.Places.{kind_column, first_column, size_column, cell_at, rows_in}
use Rattle.puts.specs.Decimals.{decimal_of, field_of, line_feed}
use Rattle.puts.specs.Lines.{lines_from}
use Rattle.refused_line.specs.Refused.{counted, line_by, lines_by}

-- "`KIND` is one of `identifier`, `extended`, `reserved`, `integer`, `real`, `character`, `string`, `delimiter` (a tick too), `unreadable`.": the
-- kinds 1 to 7 by their numbers, then the delimiters, and from the first reserved word on the reserved words
unfoldable pub kind_words : List String
kind_words = "" ∷ " identifier" ∷ " extended" ∷ " integer" ∷ " real" ∷ " character" ∷ " string" ∷ " unreadable" ∷ []

abbrev pub first_reserved : ℕ
first_reserved = 33

unfoldable pub kind_word : ℕ → List ℕ
kind_word k = bytes_of (get_or kind_words k (cond (ltb k first_reserved) " delimiter" " reserved"))

-- "`FIRST` is the byte place, `LENGTH` the counted of bytes."
unfoldable pub places_of : ℕ → ℕ → List ℕ
places_of first size = field_of first ++ (field_of size ++ (line_feed ∷ []))

-- "`ELEMENT KIND FIRST LENGTH`"
unfoldable pub element_of : List ℕ → ℕ → List ℕ
element_of table i = decimal_of i ++ (kind_word (cell_at table i kind_column) ++ places_of (cell_at table i first_column) (cell_at table i size_column))

-- "`elements COUNT`"
unfoldable pub head_of : ℕ → List ℕ
head_of n = bytes_of "elements " ++ (decimal_of n ++ (line_feed ∷ []))

-- the lines by their numbers: the head, and then each element's
unfoldable pub listed_line : List ℕ → List ℕ → ℕ → List ℕ
listed_line table answer zero = head_of (get_or answer counted 0)
listed_line table answer (suc i) = element_of table i

-- those of any answer, and how many there are: no more elements are listed than the table has rows
unfoldable pub element_line : List ℕ → List ℕ → ℕ → List ℕ
element_line table answer = line_by answer (listed_line table answer)

unfoldable pub element_lines : List ℕ → List ℕ → ℕ
element_lines table answer = lines_by answer (suc (min (get_or answer counted 0) (rows_in table)))

-- the listing: all of them
unfoldable pub element_listing : List ℕ → List ℕ → List ℕ
element_listing table answer = lines_from (element_line table answer) 0 (element_lines table answer)
