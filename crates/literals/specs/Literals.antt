-- The number that an integer literal spells, by 01's section "Elements": digits with underscores between, perhaps in a base, perhaps with an exponent.
-- Past the end of a list `get_or` gives 0, a byte of no class. Assumes nothing.
use Rattle.std.specs.Prelude.{ℕ, ◌+◌, ◌*◌, ◌^◌, Bool, false, cond, ◌&&◌, List, eqb, get_or, drop, pos}
use Rattle.classes.specs.Bytes.{between, lower, ten, least_base, greatest_base, hash, small_e}
use Rattle.classes.specs.Runs.{run}
use Rattle.classes.specs.declared.Run.TheVariants.{Below}
use Rattle.numbers.specs.Digits.{leading, exponent_head}
use Rattle.integers.specs.Integers.{sized_of}
use Rattle.integers.specs.declared.Folded.{Folded}

-- "then perhaps E, an optional plus and digits": the number of those digits
unfoldable pub exponent_of : List ℕ → ℕ
exponent_of s = cond (eqb (lower (get_or s 0 0)) small_e) (leading ten (drop (exponent_head false s) s)) 0

-- digits in a base, `closing` bytes (the second `#`), perhaps an exponent, which is of that base
unfoldable pub number_in : ℕ → ℕ → List ℕ → ℕ
number_in base closing s = leading base s * base ^ exponent_of (drop (run (Below base) s + closing) s)

-- "or base 2 to 16, `#`"
unfoldable pub is_based : List ℕ → Bool
is_based s = eqb (get_or s (run (Below ten) s) 0) hash && between least_base greatest_base (leading ten s)

unfoldable pub literal_number : List ℕ → ℕ
literal_number s = cond (is_based s) (number_in (leading ten s) 1 (drop (run (Below ten) s + 1) s)) (number_in ten 0 s)

-- the folded literal: state 9 is "a literal or result beyond 2147483647 in size"
unfoldable pub literal_of : List ℕ → Folded
literal_of s = sized_of (pos (literal_number s))
