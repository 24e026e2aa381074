-- "the first pair of own items that share a name: smallest earlier piece, then smallest later". Each piece has a number, its name's, or 0
-- for none, so that two share a name where their numbers are equal and not 0. Assumes nothing.
use Rattle.std.specs.Prelude.{ℕ, zero, suc, min, Bool, true, false, not, ◌&&◌, List, eqb, length, get_or, Option, Some, None}

-- pieces i and j have one number, and it is not 0
unfoldable pub same_number : List ℕ → ℕ → ℕ → Bool
same_number owns i j = not (eqb (get_or owns i 0) 0) && eqb (get_or owns i 0) (get_or owns j 0)

-- the smallest later piece that goes with piece i, of m from the j-th on; else `other`
unfoldable pub later_of : (ℕ → ℕ → Bool) → ℕ → ℕ → ℕ → Option (ℕ × ℕ) → Option (ℕ × ℕ)
later_of s i j zero other = other
later_of s i j (suc m) other = elim (s i j) [ true ↦ Some (i, j) | false ↦ later_of s i (suc j) m other ]

-- the smallest earlier piece that goes with a later one, of m from the i-th on
unfoldable pub pair_from : (ℕ → ℕ → Bool) → ℕ → ℕ → Option (ℕ × ℕ)
pair_from s i zero = None
pair_from s i (suc m) = later_of s i (suc i) m (pair_from s (suc i) m)

-- the first pair of n pieces that the table has
unfoldable pub pair_of : List ℕ → ℕ → Option (ℕ × ℕ)
pair_of owns n = pair_from (same_number owns) 0 (min n (length owns))
