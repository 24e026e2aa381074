-- The records of a survey, its tally and its pair, line by line, as bytes: what the program `survey --records` prints. Assumes nothing.
use Rattle.std.specs.Prelude.{ℕ, ◌-◌, ◌+◌, ◌*◌, ◌/◌, min, cond, List, [], ◌∷◌, ◌++◌, eqb, ltb, leb, length, get_or, take, drop}
use Rattle.words.specs.Words.{bytes_of}
use Rattle.states.specs.States.{states}
use Rattle.pieces.specs.Records.{record_words}
use Rattle.puts.specs.Decimals.{decimal_of, field_of, fields_of, line_feed}
use Rattle.puts.specs.Lines.{lines_from}
use Rattle.refused_line.specs.Refused.{counted, whole, line_by, lines_by}
pub use Rattle.refused_line.specs.Refused.{whole_text}

-- where a survey's answer has frame, whether there is a pair, the pair's two pieces, and the tally
abbrev pub frame : ℕ
frame = 3

abbrev pub pair : ℕ
pair = 5

abbrev pub earlier : ℕ
earlier = 6

abbrev pub later : ℕ
later = 7

abbrev pub tally : ℕ
tally = 8

-- "`frame` is `good` or `bad`, `whole` is `yes` or `no`."
unfoldable pub frame_text : ℕ → List ℕ
frame_text f = cond (eqb f 1) (bytes_of " frame good") (bytes_of " frame bad")

-- "`pieces COUNT frame good whole no`"
unfoldable pub head_of : ℕ → ℕ → ℕ → List ℕ
head_of pieces f w = bytes_of "pieces " ++ (decimal_of pieces ++ (frame_text f ++ whole_text w))

-- of an answer
unfoldable pub first_of : List ℕ → List ℕ
first_of answer = head_of (get_or answer counted 0) (get_or answer frame 0) (get_or answer whole 0)

-- the numbers of a record, none where the table has no such record
unfoldable pub numbers_at : List ℕ → ℕ → List ℕ
numbers_at items i = cond (ltb i (length items / record_words)) (take record_words (drop (record_words * i) items)) []

-- "`PIECE CLASS FIRST COUNT NAME STATE KIND LOW HIGH`"
unfoldable pub record_fields : List ℕ → ℕ → List ℕ
record_fields items i = decimal_of i ++ (fields_of (numbers_at items i) ++ (line_feed ∷ []))

-- "`tally` has eleven counts, of the items in states 0 to 10."
unfoldable pub tally_text : List ℕ → List ℕ
tally_text answer = bytes_of "tally" ++ (fields_of (take states (drop tally answer)) ++ (line_feed ∷ []))

-- "`pair` gives the two piece numbers, or is `pair none`."
unfoldable pub both_of : ℕ → ℕ → List ℕ
both_of e l = bytes_of "pair" ++ (field_of e ++ (field_of l ++ (line_feed ∷ [])))

unfoldable pub pair_text : ℕ → ℕ → ℕ → List ℕ
pair_text p e l = cond (eqb p 1) (both_of e l) (bytes_of "pair none\n")

-- how many records are listed: no more than the table has
unfoldable pub records_listed : List ℕ → List ℕ → ℕ
records_listed items answer = min (get_or answer counted 0) (length items / record_words)

-- "A line for each piece, headings and closings too": the lines by their numbers, the head, the records, the tally and the pair
unfoldable pub last_of : List ℕ → ℕ → ℕ → List ℕ
last_of answer n i = cond (eqb i (n + 1)) (tally_text answer) (pair_text (get_or answer pair 0) (get_or answer earlier 0) (get_or answer later 0))

unfoldable pub listed_line : List ℕ → List ℕ → ℕ → List ℕ
listed_line items answer i =
    cond (eqb i 0) (first_of answer)
    (cond (leb i (records_listed items answer)) (record_fields items (i - 1)) (last_of answer (records_listed items answer) i))

-- those of any answer, and how many there are: head, tally and pair beside the records
unfoldable pub record_line : List ℕ → List ℕ → ℕ → List ℕ
record_line items answer = line_by answer (listed_line items answer)

abbrev pub beside_records : ℕ
beside_records = 3

unfoldable pub record_lines : List ℕ → List ℕ → ℕ
record_lines items answer = lines_by answer (records_listed items answer + beside_records)

-- the listing: all of them
unfoldable pub record_listing : List ℕ → List ℕ → List ℕ
record_listing items answer = lines_from (record_line items answer) 0 (record_lines items answer)
