-- What the survey of a text answers, given how many words the two lent tables have, and what they hold then (01, "Pieces, items, states" and
-- "Refusals and their order", of which 1, 3, 4, 9 and 10 concern it). Assumes nothing.
use Rattle.std.specs.Prelude.{ℕ, ◌-◌, ◌*◌, List, ◌++◌, Option, Result, Ok, Err, length, replicate}
use Rattle.element_reading.specs.Rows.{rows_of}
use Rattle.element_reading.specs.Reading.{reading_of}
use Rattle.element_reading.specs.Reading as elements
use Rattle.places.specs.declared.ElementNumber.{ElementNumber}
use Rattle.refusals.specs.declared.Refusal.{Refusal}
use Rattle.pieces.specs.Records.{record_words, recording}
use Rattle.pieces.specs.declared.NotRecorded.{NotRecorded}
use Rattle.pieces.specs.declared.NotRecorded.TheVariants as M
use Rattle.names.specs.code.Names.{shared_pair}
use Rattle.meaning.specs.Pieces.{pieces_of}
use Rattle.meaning.specs.code.PieceValues.{records_of}
use Rattle.records.specs.Tallies.{tally_of}
use Rattle.records.specs.Frames.{frame_good, whole_of}
use Rattle.survey_reading.specs.declared.Summary.{Summary}
use Rattle.refusals.specs.declared.SurveyRefusal.{SurveyRefusal}
use Rattle.refusals.specs.declared.SurveyRefusal.TheVariants.{Elements, TooMany, ItemsShort}

-- the item table of a text: "one record to a piece", and zeros after
unfoldable pub item_table : List ℕ → ℕ → List ℕ
item_table text words = records_of text ++ replicate (words - record_words * length (pieces_of text)) 0

-- what the elements and n records say together: frame, whole and tally, and the pair
unfoldable pub summed_of : List ℕ → List ℕ → ℕ → List ℕ → ℕ → Option (ℕ × ℕ) → Summary
summed_of text table count items n pair =
    record { pieces = n; frame = frame_good text table count; whole = whole_of (frame_good text table count) (tally_of items n); pair = pair; tally = tally_of items n }

-- the survey of a text that is not refused: what its records say together, and the first pair
unfoldable pub summary : List ℕ → List ℕ → ℕ → List ℕ → ℕ → Summary
summary text table count items n = summed_of text table count items n (shared_pair text table items n)

abbrev pub survey_by_recording : Result ℕ NotRecorded → List ℕ → List ℕ → ℕ → List ℕ → Result Summary SurveyRefusal
survey_by_recording (Ok n) text table count items = Ok (summary text table count items n)
survey_by_recording (Err M.TooMany) text table count items = Err TooMany
survey_by_recording (Err (M.TableShort rows)) text table count items = Err (ItemsShort rows)

-- 1, 3, 4, then 9 and 10, then the survey
abbrev pub survey_by_reading : Result ElementNumber Refusal → List ℕ → List ℕ → ℕ → Result Summary SurveyRefusal
survey_by_reading (Err r) text table words = Err (Elements r)
survey_by_reading (Ok n) text table words = survey_by_recording (recording (length (pieces_of text)) words) text table (length (rows_of text)) (item_table text words)

unfoldable pub survey_of : List ℕ → ℕ → ℕ → Result Summary SurveyRefusal
survey_of text element_words item_words = survey_by_reading (reading_of text element_words) text (elements.table_of text element_words) item_words

-- "On refusal every lent table is all zeros. On success unused rows are zeros.": a table of so many words
abbrev pub left : Result Summary SurveyRefusal → ℕ → List ℕ → List ℕ
left (Ok s) words table = table
left (Err r) words table = replicate words 0

-- the element table afterwards, and the item table
unfoldable pub elements_after_survey : List ℕ → ℕ → ℕ → List ℕ
elements_after_survey text element_words item_words = left (survey_of text element_words item_words) element_words (elements.table_of text element_words)

unfoldable pub items_after : List ℕ → ℕ → ℕ → List ℕ
items_after text element_words item_words = left (survey_of text element_words item_words) item_words (item_table text item_words)
