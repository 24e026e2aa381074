-- The words of an item record, by their places: "one record to a piece (class 1 to 5 ..; first element, count, name element, state; in state 0
-- kind, 1 integer or 2 truth, and two numbers; what is absent is 0)". Assumes nothing.
use Rattle.std.specs.Prelude.{ℕ}

abbrev pub class : ℕ
class = 0

abbrev pub first : ℕ
first = 1

abbrev pub count : ℕ
count = 2

abbrev pub name : ℕ
name = 3

abbrev pub state : ℕ
state = 4

abbrev pub kind : ℕ
kind = 5

abbrev pub low : ℕ
low = 6

abbrev pub high : ℕ
high = 7

-- how many words a record has
abbrev pub record_words : ℕ
record_words = 8
