-- "class 1 to 5: heading, closing, constant, subtype, unclaimed". Assumes nothing.
use Rattle.std.specs.Prelude.{ℕ, Bool, ◌||◌, eqb}

abbrev pub heading : ℕ
heading = 1

abbrev pub closing : ℕ
closing = 2

abbrev pub constant : ℕ
constant = 3

abbrev pub subtype : ℕ
subtype = 4

abbrev pub unclaimed : ℕ
unclaimed = 5

-- a heading or a closing
abbrev pub is_either : ℕ → Bool
is_either class = eqb class heading || eqb class closing
