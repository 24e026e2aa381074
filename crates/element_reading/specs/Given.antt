-- When a text's elements are read and when each of refusals 1, 3, 4 is given, in the words and the order of 01's table ("Refusals and their
-- order"). `words` is how many words the lent table has. Assumes nothing: these are definitions.
use Rattle.std.specs.Prelude.{ℕ, ◌*◌, ◌/◌, ◌≤◌, ◌<◌, List, length}
use Rattle.places.specs.Sizes.{most_bytes, most_elements}
use Rattle.places.specs.Places.{row_words}
use Rattle.element_reading.specs.Rows.{rows_of}

-- how many elements a text has
abbrev pub element_count : List ℕ → ℕ
element_count text = length (rows_of text)

-- the text's elements are taken: none of 1, 3, 4 refuses it
abbrev pub Taken : List ℕ → ℕ → Type 0
Taken text words = (length text ≤ most_bytes) × (element_count text ≤ most_elements) × (row_words * element_count text ≤ words)

-- 01's table of refusals, a line to each: its number, when it is given, and its place
pub data Given (text : List ℕ) (words : ℕ) : ℕ → ℕ → Type 0 where
  -- "text too long", at "65,536"
  too_long : most_bytes < length text → Given text words 1 most_bytes
  -- "more than 8,192 elements", at "8,192"
  too_many : length text ≤ most_bytes → most_elements < element_count text → Given text words 3 most_elements
  -- "element table short", at the "rows it has"
  short : length text ≤ most_bytes → element_count text ≤ most_elements → words < row_words * element_count text → Given text words 4 (words / row_words)
