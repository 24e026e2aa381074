-- What the words of the element table say: rows of three words, "kind, first byte and length". Request 13 (packed rows) changes what stands
-- here. Assumes nothing.
use Rattle.std.specs.Prelude.{ℕ, zero, suc, ◌+◌, ◌*◌, ◌/◌, ◌^◌, Bool, cond, List, [], ◌∷◌, ltb, leb, length, get_or, set, drop}

-- how many words of 64 bits there are
abbrev pub all_words : ℕ
all_words = 2 ^ 64

-- how many words a row has
abbrev pub row_words : ℕ
row_words = 3

-- its columns
abbrev pub kind_column : ℕ
kind_column = 0

abbrev pub first_column : ℕ
first_column = 1

abbrev pub size_column : ℕ
size_column = 2

-- how many rows a table has
abbrev pub rows_in : List ℕ → ℕ
rows_in table = length table / row_words

-- the rows from row i on
abbrev pub rows_from : List ℕ → ℕ → List ℕ
rows_from table i = drop (row_words * i) table

-- word j of row i, 0 where there is no such row
unfoldable pub cell_at : List ℕ → ℕ → ℕ → ℕ
cell_at table i j = cond (ltb i (rows_in table)) (get_or table (row_words * i + j) 0) 0

-- the kinds of the first n elements
unfoldable pub kinds_of : ℕ → List ℕ → List ℕ
kinds_of zero table = []
kinds_of (suc n) table = get_or table 0 0 ∷ kinds_of n (drop row_words table)

-- a row put at its number, where the table has room for it
unfoldable pub put_row : List ℕ → ℕ → ℕ → ℕ → ℕ → List ℕ
put_row t n kind first size =
    cond (ltb n (rows_in t)) (set (set (set t (n * row_words) kind) (n * row_words + first_column) first) (n * row_words + size_column) size) t

-- the n bytes from x stand in the text
abbrev pub within : List ℕ → ℕ → ℕ → Bool
within s x n = leb (x + n) (length s)
