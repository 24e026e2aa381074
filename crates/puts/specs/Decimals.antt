-- "Numbers are decimal, a negative one with a leading `-`; fields are separated by one space; every line ends in a line feed." Assumes nothing.
use Rattle.std.specs.Prelude.{ℕ, zero, suc, ◌+◌, ◌-◌, ◌/◌, ◌%◌, true, false, cond, List, [], ◌∷◌, ◌++◌, ltb}

-- the byte of the digit 0, those of `-`, of a space and of a line feed
abbrev pub digit_zero : ℕ
digit_zero = 48

abbrev pub minus_sign : ℕ
minus_sign = 45

abbrev pub space : ℕ
space = 32

abbrev pub line_feed : ℕ
line_feed = 10

-- the base
abbrev pub decimal_base : ℕ
decimal_base = 10

-- a word of 64 bits, in two's complement: the first that stands for a negative number, and what that number is below 0 by
abbrev pub first_negative : ℕ
first_negative = 9223372036854775808

abbrev pub word_end : ℕ
word_end = 18446744073709551616

-- the digits of n, if it has no more than f + 1: those of a tenth of it, and the last. `elim` and not `cond`, which would compute both
unfoldable pub digits_of : ℕ → ℕ → List ℕ
digits_of zero n = (digit_zero + n) ∷ []
digits_of (suc f) n = elim (ltb n decimal_base) [ true ↦ (digit_zero + n) ∷ [] | false ↦ digits_of f (n / decimal_base) ++ ((digit_zero + n % decimal_base) ∷ []) ]

-- "Numbers are decimal"
unfoldable pub decimal_of : ℕ → List ℕ
decimal_of n = digits_of n n

-- a word of two's complement, "a negative one with a leading `-`"
unfoldable pub signed_text : ℕ → List ℕ
signed_text w = cond (ltb w first_negative) (decimal_of w) (minus_sign ∷ decimal_of (word_end - w))

-- "separated by one space": a number after others
unfoldable pub field_of : ℕ → List ℕ
field_of w = space ∷ signed_text w

-- several of them
unfoldable pub fields_of : List ℕ → List ℕ
fields_of [] = []
fields_of (w ∷ ws) = field_of w ++ fields_of ws
