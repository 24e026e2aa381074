-- The integer and real literals of 01's section "Elements": how far a number goes at the front of a line's rest. Past the end of a list `get_or`
-- gives 0, a byte of no class. Assumes nothing.
use Rattle.std.specs.Prelude.{ℕ, ◌+◌, Bool, true, false, cond, ◌&&◌, List, eqb, get_or, drop, Option, Some, None}
use Rattle.classes.specs.Bytes.{between, lower, is_digit, ten, least_base, greatest_base}
use Rattle.classes.specs.Bytes as byte
use Rattle.classes.specs.Signs as sign
use Rattle.classes.specs.Runs.{run, in_run}
use Rattle.classes.specs.declared.Run.TheVariants.{Below}
use Rattle.numbers.specs.Digits.{leading, exponent_head}
use Rattle.numbers.specs.declared.Number.{Number}
use Rattle.numbers.specs.declared.Number.TheVariants.{Integer, Real, Neither}

-- a number that is no base
abbrev pub above_bases : ℕ
above_bases = 17

-- "digits with single underscores between"
unfoldable pub digits : List ℕ → ℕ
digits s = run (Below ten) s

unfoldable pub exponent : Bool → List ℕ → ℕ
exponent either s =
    cond (eqb (lower (get_or s 0 0)) byte.small_e && is_digit (get_or s (exponent_head either s) 0))
    (exponent_head either s + digits (drop (exponent_head either s) s))
    0

-- "digits below the base, `#`; then perhaps" an exponent, from after the first `#`
unfoldable pub below_base : ℕ → List ℕ → Option ℕ
below_base base s =
    cond (in_run (Below base) (get_or s 0 0) && eqb (get_or s (run (Below base) s) 0) byte.hash)
    (Some (run (Below base) s + 1 + exponent false (drop (run (Below base) s + 1) s)))
    None

abbrev pub integer_past : ℕ → Option ℕ → Number
integer_past n (Some k) = Integer (n + k)
integer_past n None = Neither

-- the three ways that a number goes on after its digits: `#`, a point, or neither. In front of the `#` they spell the "base 2 to 16"
unfoldable pub based : List ℕ → Number
based s = cond (between least_base greatest_base (leading ten s)) (integer_past (digits s + 1) (below_base (leading ten s) (drop (digits s + 1) s))) Neither

-- "decimal with a point and digits on both sides"
unfoldable pub pointed : List ℕ → Number
pointed s =
    cond (is_digit (get_or s (digits s + 1) 0))
    (Real (digits s + 1 + (digits (drop (digits s + 1) s) + exponent true (drop (digits (drop (digits s + 1) s)) (drop (digits s + 1) s)))))
    Neither

-- what does not begin with a digit is no number
unfoldable pub number : List ℕ → Number
number s =
    cond (is_digit (get_or s 0 0))
    (cond (eqb (get_or s (digits s) 0) byte.hash) (based s)
    (cond (eqb (get_or s (digits s) 0) sign.point) (pointed s)
    (Integer (digits s + exponent false (drop (digits s) s)))))
    Neither
