-- When each of refusals 1, 3, 4, 9 and 10 of a survey is given, in the words and the order of 01's table ("Refusals and their order").
-- `element_words` and `item_words` are how many words the two lent tables have. Assumes nothing: these are definitions.
use Rattle.std.specs.Prelude.{ℕ, ◌*◌, ◌/◌, ◌≤◌, ◌<◌, List, length}
use Rattle.places.specs.Sizes.{most_pieces}
use Rattle.element_reading.specs.Given.{Taken}
use Rattle.element_reading.specs.Given as elements
use Rattle.pieces.specs.Records.{record_words}
use Rattle.meaning.specs.Pieces.{pieces_of}

-- 01's table of refusals, a line to each: its number, when it is given, and its place; 1, 3, 4 as the element reader gives them
pub data Given (text : List ℕ) (element_words item_words : ℕ) : ℕ → ℕ → Type 0 where
  of_elements : {number place : ℕ} → elements.Given text element_words number place → Given text element_words item_words number place
  -- "more than 1,024 pieces", at "1,024"
  too_many : Taken text element_words → most_pieces < length (pieces_of text) → Given text element_words item_words 9 most_pieces
  -- "item table short", at the "rows it has"
  items_short : Taken text element_words → length (pieces_of text) ≤ most_pieces → item_words < record_words * length (pieces_of text)
      → Given text element_words item_words 10 (item_words / record_words)
