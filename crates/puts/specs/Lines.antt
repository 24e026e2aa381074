-- Whole lines in a lent buffer: as many as fit, and zeros after them. A listing is its lines by their numbers, from 0. Assumes nothing.
use Rattle.std.specs.Prelude.{ℕ, zero, suc, ◌+◌, ◌-◌, ◌*◌, ◌/◌, ◌≡◌, cond, List, [], ◌++◌, ltb, length, take, drop, replicate}
use Rattle.puts.specs.declared.Filled.{Filled}

-- n lines from line i on
unfoldable pub lines_from : (ℕ → List ℕ) → ℕ → ℕ → List ℕ
lines_from line i zero = []
lines_from line i (suc n) = line i ++ lines_from line (suc i) n

-- how many of n lines from line i on fit whole where there is room for so many bytes, the last of which stays free
unfoldable pub fitting : (ℕ → List ℕ) → ℕ → ℕ → ℕ → ℕ
fitting line i zero room = 0
fitting line i (suc n) room = cond (ltb (length (line i)) room) (suc (fitting line (suc i) n (room - length (line i)))) 0

-- What a part of a listing is, of the lines from `from` up to `to`, in a buffer of so many bytes: the line to go on with, how many bytes are
-- used, how many lines are left; and the buffer, the lines that fit and zeros after them.
pub record Part (line : ℕ → List ℕ) (from to size : ℕ) (r : Filled) (out : List ℕ) : Type 0 where
  pub next : r.next ≡ from + fitting line from (to - from) size
  pub used : r.used ≡ length (lines_from line from (fitting line from (to - from) size))
  pub left : r.left ≡ to - r.next
  pub bytes : out ≡ lines_from line from (fitting line from (to - from) size) ++ replicate (size - r.used) 0

-- the numbers of a row of a table whose rows have so many, none where the table has no such row
unfoldable pub numbers_in_row : List ℕ → ℕ → ℕ → List ℕ
numbers_in_row table width i = cond (ltb i (length table / width)) (take width (drop (width * i) table)) []
