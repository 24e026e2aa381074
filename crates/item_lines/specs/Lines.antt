-- The listing of a survey, line by line, as bytes: 01, "Numbers at the edges", and what the programs print. Assumes nothing.
use Rattle.std.specs.Prelude.{ℕ, zero, suc, ◌/◌, min, cond, List, [], ◌∷◌, ◌++◌, eqb, length, get_or}
use Prim.Native.String.{String}
use Rattle.words.specs.Words.{bytes_of}
use Rattle.places.specs.Places.{first_column, size_column, cell_at}
use Rattle.pieces.specs.Records.{record_words}
use Rattle.pieces.specs.Columns as column
use Rattle.records.specs.Records.{word_at, is_item}
use Rattle.puts.specs.Decimals.{decimal_of, line_feed}
use Rattle.puts.specs.Lines.{lines_from}
use Rattle.item_words.specs.LineWords.{stretch_of, claim_text, value_text}
use Rattle.refused_line.specs.Refused.{counted, whole, line_by, lines_by}
pub use Rattle.refused_line.specs.Refused.{whole_text}

-- "Names print as spelled": the bytes of an element, none where the tables point outside
unfoldable pub spelled_of : List ℕ → List ℕ → ℕ → List ℕ
spelled_of text elements e = stretch_of text (cell_at elements e first_column) (cell_at elements e size_column)

-- "states by their word": those of the states 0 to 9; any other is `range`, 10
unfoldable pub state_words : List String
state_words =
    "" ∷ " broken" ∷ " doubled" ∷ " unfolded" ∷ " unknown" ∷ " leans" ∷ " kind" ∷ " divisor" ∷ " exponent" ∷ " size" ∷ []

unfoldable pub state_word : ℕ → List ℕ
state_word s = bytes_of (get_or state_words s " range")

-- "After the name": the value, or the state's word
unfoldable pub result_of : List ℕ → ℕ → List ℕ
result_of items i =
    cond (eqb (word_at items i column.state) 0) (value_text (word_at items i column.class) (word_at items i column.kind) (word_at items i column.low) (word_at items i column.high))
    (state_word (word_at items i column.state))

-- an item's line, "its number being its piece's"
unfoldable pub item_of : List ℕ → List ℕ → List ℕ → ℕ → List ℕ
item_of text elements items i =
    decimal_of i ++ (claim_text (word_at items i column.class) (spelled_of text elements (word_at items i column.name)) ++ (result_of items i ++ (line_feed ∷ [])))

-- "A line for each item, in order": a heading or a closing has none
unfoldable pub line_of : List ℕ → List ℕ → List ℕ → ℕ → List ℕ
line_of text elements items i = cond (is_item (word_at items i column.class)) (item_of text elements items i) []

-- "pieces 6 whole no": the first line
unfoldable pub head_of : ℕ → ℕ → List ℕ
head_of pieces w = bytes_of "pieces " ++ (decimal_of pieces ++ whole_text w)

-- the lines by their numbers: the head, and then a record's, if it is an item's
unfoldable pub listed_line : List ℕ → List ℕ → List ℕ → List ℕ → ℕ → List ℕ
listed_line text elements items answer zero = head_of (get_or answer counted 0) (get_or answer whole 0)
listed_line text elements items answer (suc i) = line_of text elements items i

-- those of any answer, and how many there are: no more records are listed than the table has
unfoldable pub survey_line : List ℕ → List ℕ → List ℕ → List ℕ → ℕ → List ℕ
survey_line text elements items answer = line_by answer (listed_line text elements items answer)

unfoldable pub survey_lines : List ℕ → List ℕ → ℕ
survey_lines items answer = lines_by answer (suc (min (get_or answer counted 0) (length items / record_words)))

-- the listing: all of them
unfoldable pub survey_listing : List ℕ → List ℕ → List ℕ → List ℕ → List ℕ
survey_listing text elements items answer = lines_from (survey_line text elements items answer) 0 (survey_lines items answer)
