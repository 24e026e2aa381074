-- The classes of bytes that 01's section "Elements" speaks of. Request 04 (accented letters) changes `is_letter` and `lower` and nothing else.
-- Assumes nothing.
use Rattle.std.specs.Prelude.{ℕ, ◌+◌, ◌-◌, Bool, cond, ◌&&◌, ◌||◌, leb}

-- from one byte to another, both included
abbrev pub between : ℕ → ℕ → ℕ → Bool
between low high b = leb low b && leb b high

-- "Letters are A-Z and a-z"
unfoldable pub is_letter : ℕ → Bool
is_letter b = between 65 90 b || between 97 122 b

-- ", and case is ignored": a letter as its lower case
unfoldable pub lower : ℕ → ℕ
lower b = cond (between 65 90 b) (b + 32) b

unfoldable pub is_digit : ℕ → Bool
is_digit b = between 48 57 b

-- digits are decimal, and "base 2 to 16"
abbrev pub ten : ℕ
ten = 10

abbrev pub least_base : ℕ
least_base = 2

abbrev pub greatest_base : ℕ
greatest_base = 16

-- the number that a digit stands for, A to F and a to f being 10 to 15; the greatest base, which is below no base, for any other byte
unfoldable pub digit_value : ℕ → ℕ
digit_value b = cond (is_digit b) (b - 48) (cond (between 65 70 b) (b - 55) (cond (between 97 102 b) (b - 87) greatest_base))

-- the bytes that 01 writes as signs or calls by name, in names and integers; `Signs` has the others
abbrev pub hash : ℕ
hash = 35

abbrev pub plus : ℕ
plus = 43

abbrev pub hyphen : ℕ
hyphen = 45

abbrev pub underscore : ℕ
underscore = 95

abbrev pub small_e : ℕ
small_e = 101
