-- Runs of bytes: how long a word or a row of digits is, "single underscores between them". Past the end of a list `get_or` gives 0, a byte
-- of no class. Assumes nothing.
use Rattle.std.specs.Prelude.{ℕ, suc, Bool, true, false, ◌&&◌, ◌||◌, List, [], ◌∷◌, eqb, ltb, get_or}
use Rattle.classes.specs.Bytes.{is_letter, is_digit, digit_value, underscore}
use Rattle.classes.specs.declared.Run.{Run}
use Rattle.classes.specs.declared.Run.TheVariants.{Word, Below}

-- "letters and digits" of an identifier; digits below a base
unfoldable pub in_run : Run → ℕ → Bool
in_run Word b = is_letter b || is_digit b
in_run (Below base) b = ltb (digit_value b) base

-- how many bytes at the front, while the rest from each of them passes the test
unfoldable pub count_while : (List ℕ → Bool) → List ℕ → ℕ
count_while q [] = 0
count_while q (b ∷ s) = elim (q (b ∷ s)) [ true ↦ suc (count_while q s) | false ↦ 0 ]

-- at the front stands a byte of the run, or an underscore with one after it
unfoldable pub goes_on : Run → List ℕ → Bool
goes_on c s = in_run c (get_or s 0 0) || eqb (get_or s 0 0) underscore && in_run c (get_or s 1 0)

-- the length of the run at the front
unfoldable pub run : Run → List ℕ → ℕ
run c s = count_while (goes_on c) s
