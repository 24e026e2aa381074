-- 01's sample, computed from the bytes of the text to those of its listing, in steps: the rows and the records, the answer's words, the lines.
-- Assumes nothing.
use Prim.Native.Nat.{ℕ, ◌-◌, ◌*◌}
use mathlib.Core.Path.{◌≡◌, refl, ap, sym, ◌∙◌}
use mathlib.Core.List.{List, [], ◌∷◌, ◌++◌}
use lib.ListN.{length, replicate}
use Rattle.places.specs.Places.{row_words, cell_at, kinds_of}
use Rattle.pieces.specs.Records.{record_words, recording, name_of, pieces_in}
use Rattle.element_reading.specs.Rows.{rows_of}
use Rattle.element_reading.specs.Table.{cells}
use Rattle.element_reading.specs.Reading.{reading_of, table_of, table_by}
use Rattle.std.specs.Prelude.{Result, Ok}
use Rattle.places.specs.declared.ElementNumber.{ElementNumber}
use Rattle.refusals.specs.declared.Refusal.{Refusal}
use Rattle.refusals.specs.declared.SurveyRefusal.{SurveyRefusal}
use Rattle.same_names.specs.Alike.{agree, spelled_same, same_name}
use Rattle.records.specs.Records.{word_at, item_state}
use Rattle.records.specs.Tallies.{in_state, counts_from, tally_of}
use Rattle.records.specs.Frames.{name_agrees, good_in, frame_good, whole_of}
use Rattle.pieces.specs.Frames.{closing_name, last_framed, framed_from, frame_of}
use Rattle.names.specs.code.Names.{share, shared_pair}
use Rattle.pairs.specs.code.Pairs.{later_of, pair_from}
use Rattle.meaning.specs.Pieces.{pieces_of}
use Rattle.meaning.specs.code.PieceValues.{records_of}
use Rattle.survey_reading.specs.declared.Summary.{Summary}
use Rattle.survey_reading.specs.code.Survey.{item_table, summed_of, summary, survey_by_recording, survey_by_reading, survey_of, left, elements_after_survey, items_after}
use Rattle.survey_reading.proofs.Permits.{permits}
use Rattle.words.specs.Words.{bytes_of}
use Rattle.puts.specs.Decimals.{digits_of, decimal_of, signed_text, field_of, fields_of}
use Rattle.puts.specs.Lines.{lines_from}
use Rattle.refused_line.specs.Refused.{line_by, lines_by, whole_text}
use Rattle.item_lines.specs.Lines as item
use Rattle.item_words.specs.LineWords.{stretch_of, claim_text, folded_text, upper_of, value_text}
use Rattle.item_lines.specs.Lines.{spelled_of, state_words, state_word, result_of, item_of, line_of, survey_line, survey_lines, survey_listing}
use Rattle.record_lines.specs.Lines as record-lines
use Rattle.record_lines.specs.Lines.{record_listing}
use Rattle.element_lines.specs.Lines as element-lines
use Rattle.element_lines.specs.Lines.{element_listing}
use Rattle.kawhiluhe.specs.AnswerNumbers.{element_numbers, survey_numbers}
use Rattle.kawhiluhe.specs.AnswerWords.{element_words, counts_of, surveyed_words}
use Rattle.edges.specs.Incident.{gas}
use Rattle.edges.proofs.Computing.{computing}
use Rattle.listings.specs.Listings.{elements_listed}
use Rattle.listings.specs.Samples.{element_room, item_room, gas_listing, Sample, gas_records, SampleRecords, gas_element_lines, SampleElements}

-- kind, first byte and length of its 38 elements
unfoldable pub gas_rows : List ℕ
gas_rows =
    98 ∷ 0 ∷ 7 ∷ 1 ∷ 8 ∷ 3 ∷ 78 ∷ 12 ∷ 2 ∷ 53 ∷ 17 ∷ 8 ∷ 1 ∷ 26 ∷ 3 ∷ 25 ∷ 30 ∷ 1 ∷ 1 ∷ 32 ∷ 7 ∷ 10 ∷ 40 ∷ 2 ∷ 3 ∷ 43 ∷ 4 ∷ 26 ∷ 47 ∷ 1 ∷
    53 ∷ 51 ∷ 8 ∷ 1 ∷ 60 ∷ 3 ∷ 25 ∷ 64 ∷ 1 ∷ 1 ∷ 66 ∷ 7 ∷ 10 ∷ 74 ∷ 2 ∷ 26 ∷ 77 ∷ 1 ∷ 53 ∷ 81 ∷ 8 ∷ 1 ∷ 90 ∷ 5 ∷ 25 ∷ 96 ∷ 1 ∷ 1 ∷ 98 ∷ 7 ∷
    10 ∷ 106 ∷ 2 ∷ 1 ∷ 109 ∷ 3 ∷ 20 ∷ 113 ∷ 1 ∷ 1 ∷ 115 ∷ 3 ∷ 26 ∷ 118 ∷ 1 ∷ 53 ∷ 122 ∷ 8 ∷ 1 ∷ 131 ∷ 4 ∷ 25 ∷ 136 ∷ 1 ∷ 1 ∷ 138 ∷ 7 ∷ 10 ∷ 146 ∷ 2 ∷
    1 ∷ 149 ∷ 3 ∷ 24 ∷ 153 ∷ 1 ∷ 3 ∷ 155 ∷ 1 ∷ 26 ∷ 156 ∷ 1 ∷ 61 ∷ 158 ∷ 3 ∷ 98 ∷ 162 ∷ 7 ∷ 1 ∷ 170 ∷ 3 ∷ 26 ∷ 173 ∷ 1 ∷ []

-- the records of its six pieces
gas_items : List ℕ
gas_items =
    1 ∷ 0 ∷ 3 ∷ 1 ∷ 0 ∷ 0 ∷ 0 ∷ 0 ∷ 3 ∷ 3 ∷ 7 ∷ 4 ∷ 0 ∷ 1 ∷ 5800 ∷ 0 ∷ 3 ∷ 10 ∷ 6 ∷ 11 ∷ 1 ∷ 0 ∷ 0 ∷ 0 ∷
    3 ∷ 16 ∷ 9 ∷ 17 ∷ 5 ∷ 0 ∷ 0 ∷ 0 ∷ 3 ∷ 25 ∷ 9 ∷ 26 ∷ 0 ∷ 1 ∷ 1450 ∷ 0 ∷ 2 ∷ 34 ∷ 4 ∷ 36 ∷ 0 ∷ 0 ∷ 0 ∷ 0 ∷ []

rows_are : cells (rows_of gas) ≡ gas_rows
unfolding computing cells gas_rows
rows_are = refl

count_is : length (rows_of gas) ≡ 38
unfolding computing
count_is = refl

pub reading_is : reading_of gas element_room ≡ Ok (record { 0 = 38 })
unfolding computing reading_of
reading_is = refl

items_are : records_of gas ≡ gas_items
unfolding computing gas_items
items_are = refl

pieces_are : length (pieces_of gas) ≡ 6
unfolding computing
pieces_are = refl

-- the two tables
unfoldable pub gas_elements : List ℕ
gas_elements = gas_rows ++ replicate (element_room - row_words * 38) 0

gas_table : List ℕ
gas_table = gas_items ++ replicate (item_room - record_words * 6) 0

pub table_is : table_of gas element_room ≡ gas_elements
unfolding table_of gas_elements
table_is =
    ap (λ (r : Result ElementNumber Refusal). table_by r gas element_room) reading_is
    ∙ ap (λ (l : List ℕ). l ++ replicate (element_room - row_words * length (rows_of gas)) 0) rows_are
    ∙ ap (λ (n : ℕ). gas_rows ++ replicate (element_room - row_words * n) 0) count_is

item_table_is : item_table gas item_room ≡ gas_table
unfolding item_table gas_table
item_table_is =
    ap (λ (l : List ℕ). l ++ replicate (item_room - record_words * length (pieces_of gas)) 0) items_are
    ∙ ap (λ (n : ℕ). gas_items ++ replicate (item_room - record_words * n) 0) pieces_are

-- the answer
survey_by : survey_of gas element_room item_room ≡ Ok (summary gas (table_of gas element_room) 38 (item_table gas item_room) 6)
unfolding survey_of recording
survey_by =
    ap (λ (r : Result ElementNumber Refusal). survey_by_reading r gas (table_of gas element_room) item_room) reading_is
    ∙ ap (λ (n : ℕ). survey_by_recording (recording n item_room) gas (table_of gas element_room) (length (rows_of gas)) (item_table gas item_room)) pieces_are
    ∙ ap (λ (k : ℕ). Ok (summary gas (table_of gas element_room) k (item_table gas item_room) 6)) count_is

survey_is : survey_of gas element_room item_room ≡ Ok (summary gas gas_elements 38 gas_table 6)
survey_is =
    survey_by
    ∙ ap (λ (t : List ℕ). Ok (summary gas t 38 (item_table gas item_room) 6)) table_is
    ∙ ap (λ (t : List ℕ). Ok (summary gas gas_elements 38 t 6)) item_table_is

elements_left : elements_after_survey gas element_room item_room ≡ gas_elements
unfolding elements_after_survey summary summed_of
elements_left = ap (λ (x : Result Summary SurveyRefusal). left x element_room (table_of gas element_room)) survey_is ∙ table_is

items_left : items_after gas element_room item_room ≡ gas_table
unfolding items_after summary summed_of
items_left = ap (λ (x : Result Summary SurveyRefusal). left x item_room (item_table gas item_room)) survey_is ∙ item_table_is

-- no refusal, 6 pieces, a good frame, not whole, no pair; two items in state 0, one in 1, one in 5
gas_answer : List ℕ
gas_answer = 0 ∷ 0 ∷ 6 ∷ 1 ∷ 0 ∷ 0 ∷ 0 ∷ 0 ∷ 2 ∷ 1 ∷ 0 ∷ 0 ∷ 0 ∷ 1 ∷ 0 ∷ 0 ∷ 0 ∷ 0 ∷ 0 ∷ []

answer_is : surveyed_words (survey_numbers (Ok (summary gas gas_elements 38 gas_table 6))) ≡ gas_answer
unfolding surveyed_words counts_of summary summed_of gas_answer gas_elements gas_table gas_rows gas_items computing agree spelled_same same_name word_at item_state in_state counts_from tally_of last_framed framed_from frame_of closing_name name_of pieces_in kinds_of name_agrees good_in frame_good whole_of share shared_pair later_of pair_from cell_at
answer_is = refl

lines_are : survey_listing gas gas_elements gas_table gas_answer ≡ gas_listing
unfolding gas_answer gas_elements gas_table gas_rows gas_items word_at cell_at digits_of decimal_of signed_text lines_from line_by lines_by stretch_of spelled_of claim_text state_words state_word folded_text upper_of value_text result_of item_of line_of whole_text item.head_of item.listed_line survey_line survey_lines survey_listing bytes_of
lines_are = refl

pub sample : Sample
sample = (
  survey_of gas element_room item_room,
  (
    elements_after_survey gas element_room item_room,
    (
      items_after gas element_room item_room,
      (
        permits gas element_room item_room,
        sym
            (ap (λ (x : Result Summary SurveyRefusal). survey_listing gas (elements_after_survey gas element_room item_room) (items_after gas element_room item_room) (surveyed_words (survey_numbers x))) survey_is
            ∙ ap (λ (a : List ℕ). survey_listing gas (elements_after_survey gas element_room item_room) (items_after gas element_room item_room) a) answer_is
            ∙ ap (λ (t : List ℕ). survey_listing gas t (items_after gas element_room item_room) gas_answer) elements_left
            ∙ ap (λ (t : List ℕ). survey_listing gas gas_elements t gas_answer) items_left
            ∙ lines_are),
      ),
    ),
  ),
)

record_lines_are : record_listing gas_table gas_answer ≡ gas_records
unfolding gas_answer gas_table gas_items digits_of decimal_of signed_text field_of fields_of lines_from line_by lines_by record-lines.frame_text whole_text record-lines.head_of record-lines.first_of record-lines.numbers_at record-lines.record_fields record-lines.tally_text record-lines.both_of record-lines.pair_text record-lines.records_listed record-lines.last_of record-lines.listed_line record-lines.record_line record-lines.record_lines record_listing bytes_of
record_lines_are = refl

pub sample_records : SampleRecords
sample_records = (
  survey_of gas element_room item_room,
  (
    elements_after_survey gas element_room item_room,
    (
      items_after gas element_room item_room,
      (
        permits gas element_room item_room,
        sym
            (ap (λ (x : Result Summary SurveyRefusal). record_listing (items_after gas element_room item_room) (surveyed_words (survey_numbers x))) survey_is
            ∙ ap (λ (a : List ℕ). record_listing (items_after gas element_room item_room) a) answer_is
            ∙ ap (λ (t : List ℕ). record_listing t gas_answer) items_left
            ∙ record_lines_are),
      ),
    ),
  ),
)

element_lines_are : element_listing gas_elements (0 ∷ 0 ∷ 38 ∷ []) ≡ gas_element_lines
unfolding gas_elements gas_rows cell_at digits_of decimal_of signed_text field_of lines_from line_by lines_by element-lines.kind_words element-lines.kind_word element-lines.places_of element-lines.element_of element-lines.head_of element-lines.listed_line element-lines.element_line element-lines.element_lines element_listing bytes_of
element_lines_are = refl

pub sample_elements : SampleElements
unfolding elements_listed element_words
sample_elements =
    ap (λ (r : Result ElementNumber Refusal). element_listing (table_of gas element_room) (element_words (element_numbers r))) reading_is
    ∙ ap (λ (t : List ℕ). element_listing t (0 ∷ 0 ∷ 38 ∷ [])) table_is
    ∙ element_lines_are
