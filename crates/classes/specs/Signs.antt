-- Bytes that are no letter or digit: those that end a line or separate, those that quotes hold, and the signs that stand in no integer. Assumes nothing.
use Rattle.std.specs.Prelude.{ℕ, Bool, ◌||◌, eqb}
use Rattle.classes.specs.Bytes.{between}

-- "Bytes 10, 11, 12 and 13 each end a line."
unfoldable pub ends_line : ℕ → Bool
ends_line b = between 10 13 b

-- "Bytes 9, 32 and 160 separate."
unfoldable pub separates : ℕ → Bool
separates b = eqb b 9 || eqb b 32 || eqb b 160

-- "Strings, extended identifiers and character literals hold bytes 32-126 and 160-255."
unfoldable pub is_graphic : ℕ → Bool
is_graphic b = between 32 126 b || between 160 255 b

-- the bytes that 01 writes as signs or calls by name
-- the bytes that 01 writes as signs or calls by name, beside those of `Bytes`
abbrev pub quote : ℕ
quote = 34

abbrev pub apostrophe : ℕ
apostrophe = 39

abbrev pub star : ℕ
star = 42

abbrev pub point : ℕ
point = 46

abbrev pub slash : ℕ
slash = 47

abbrev pub backslash : ℕ
backslash = 92
