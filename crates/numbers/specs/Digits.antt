-- What the digits of a number spell, and where those of its exponent begin. Past the end of a list `get_or` gives 0, a byte of no class. Assumes
-- nothing.
use Rattle.std.specs.Prelude.{ℕ, ◌+◌, ◌*◌, Bool, cond, ◌&&◌, ◌||◌, List, [], ◌∷◌, eqb, get_or, take}
use Rattle.classes.specs.Bytes.{digit_value, underscore, hyphen}
use Rattle.classes.specs.Bytes as byte
use Rattle.classes.specs.Runs.{run}
use Rattle.classes.specs.declared.Run.TheVariants.{Below}

-- the number that digits and underscores spell in a base, after those that spell v
unfoldable pub digit_in : ℕ → ℕ → ℕ → ℕ
digit_in base v b = cond (eqb b underscore) v (v * base + digit_value b)

unfoldable pub value_spelled : ℕ → ℕ → List ℕ → ℕ
value_spelled base v [] = v
value_spelled base v (b ∷ s) = value_spelled base (digit_in base v b) s

-- "digits with single underscores between" and "digits below the base": the number that those at the front spell
unfoldable pub leading : ℕ → List ℕ → ℕ
leading base s = value_spelled base 0 (take (run (Below base) s) s)

-- "then perhaps E, an optional plus and digits"; of a real literal, "its exponent of either sign". First E and a sign, then all of it
abbrev pub signed_head : ℕ
signed_head = 2

unfoldable pub exponent_head : Bool → List ℕ → ℕ
exponent_head either s = cond (eqb (get_or s 1 0) byte.plus || either && eqb (get_or s 1 0) hyphen) signed_head 1
