-- The states of 01's table ("Pieces, items, states"), each under its word there; 0 is that of an item with its value. Assumes nothing.
use Rattle.std.specs.Prelude.{ℕ}

abbrev pub broken : ℕ
broken = 1

abbrev pub doubled : ℕ
doubled = 2

abbrev pub unfolded : ℕ
unfolded = 3

abbrev pub unknown : ℕ
unknown = 4

abbrev pub leans : ℕ
leans = 5

abbrev pub kind : ℕ
kind = 6

abbrev pub divisor : ℕ
divisor = 7

abbrev pub exponent : ℕ
exponent = 8

abbrev pub size : ℕ
size = 9

abbrev pub range : ℕ
range = 10

-- how many states there are, 0 among them: "eleven counts"
abbrev pub states : ℕ
states = 11
