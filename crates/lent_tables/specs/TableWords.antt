-- A word of a table of rows, each of so many words. Assumes nothing.
use Rattle.std.specs.Prelude.{ℕ, ◌+◌, ◌*◌, ◌/◌, cond, ◌&&◌, List, ltb, length, get_or}

-- the word of a column of a row, 0 where there is no such row or column; a row that is only begun is none
unfoldable pub word_in : ℕ → List ℕ → ℕ → ℕ → ℕ
word_in width table row column = cond (ltb column width && ltb row (length table / width)) (get_or table (width * row + column) 0) 0
