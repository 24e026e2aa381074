-- How large the machine's arrays are. Nothing is promised of these numbers: the proofs show that the machine never needs more. Assumes nothing:
-- these are definitions.
use Rattle.std.specs.Prelude.{ℕ, ◌+◌, ◌*◌}
use Rattle.forms.specs.RowWords.{row_numbers}

-- the stack's words, and the last of them, where it begins
abbrev pub bottom : ℕ
bottom = 2175

abbrev pub stack_words : ℕ
stack_words = bottom + 1

-- the words of a frame; where the outermost one stands, and the words of all frames
abbrev pub frame_words : ℕ
frame_words = 4

-- which of them are its operator, its base and its name; the first is its first element
abbrev pub frame_operator : ℕ
frame_operator = 1

abbrev pub frame_base : ℕ
frame_base = 2

abbrev pub frame_name : ℕ
frame_name = 3

abbrev pub outermost : ℕ
outermost = frame_words * stack_words

abbrev pub frames_words : ℕ
frames_words = outermost + frame_words

-- how many rows there may be, and their words
abbrev pub most_rows : ℕ
most_rows = 10368

abbrev pub cells_words : ℕ
cells_words = row_numbers * most_rows
