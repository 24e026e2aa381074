-- What a survey of a text may answer, and leave in the two tables that it is lent, which have so many words: one predicate, which is the contract.
-- Assumes nothing: these are definitions.
use Rattle.std.specs.Prelude.{ℕ, ◌-◌, ◌*◌, ◌≤◌, ◌≡◌, ◌↔◌, true, List, [], ◌++◌, Result, Ok, Err, length, get_or, replicate}
use Rattle.states.specs.States.{states}
use Rattle.states.specs.States as state
use Rattle.places.specs.Sizes.{most_pieces}
use Rattle.places.specs.Places.{row_words}
use Rattle.pieces.specs.Records.{record_words}
use Rattle.element_reading.specs.Rows.{rows_of}
use Rattle.element_reading.specs.Table.{cells}
use Rattle.element_reading.specs.Given.{element_count, Taken}
use Rattle.refusals.specs.Refusals.{survey_number, survey_place}
use Rattle.refusals.specs.declared.SurveyRefusal.{SurveyRefusal}
use Rattle.meaning.specs.Pieces.{pieces_of}
use Rattle.meaning.specs.Names.{Done}
use Rattle.meaning.specs.Meaning.{Come}
use Rattle.meaning.specs.Records.{records_from}
use Rattle.meaning.specs.Together.{GoodFrame, FirstPair, count_in, IsWhole}
use Rattle.survey_reading.specs.Given.{Given}
use Rattle.survey_reading.specs.declared.Summary.{Summary}

-- a survey that is done: what the text's pieces come to, from the first to the last, and what they say together
pub record Finished (text : List ℕ) (element_words item_words : ℕ) (y : Summary) (elements items : List ℕ) : Type 0 where
  pub taken : Taken text element_words
  pub few : length (pieces_of text) ≤ most_pieces
  pub room : record_words * length (pieces_of text) ≤ item_words
  pub dones : List Done
  pub come : Come (pieces_of text) [] (pieces_of text) dones
  -- a row to an element, "one record to a piece"; "On success unused rows are zeros."
  pub elements_are : elements ≡ cells (rows_of text) ++ replicate (element_words - row_words * element_count text) 0
  pub items_are : items ≡ records_from 0 dones ++ replicate (item_words - record_words * length (pieces_of text)) 0
  pub pieces : y.pieces ≡ length (pieces_of text)
  pub frame : (y.frame ≡ true) ↔ GoodFrame (pieces_of text)
  pub pair : FirstPair (pieces_of text) y.pair
  -- "a tally of items by state, eleven counts", "each equal to the number of items in that state"
  pub eleven : length y.tally.counts ≡ states
  pub counts : (k : ℕ) → k ≤ state.range → get_or y.tally.counts k 0 ≡ count_in k dones
  pub whole : (y.whole ≡ true) ↔ IsWhole (pieces_of text) dones

-- such a survey; or a refusal, with its number and its place in 01's table: "On refusal every lent table is all zeros."
abbrev pub Permitted : List ℕ → ℕ → ℕ → Result Summary SurveyRefusal → List ℕ → List ℕ → Type 0
Permitted text element_words item_words (Ok y) elements items = Finished text element_words item_words y elements items
Permitted text element_words item_words (Err r) elements items =
    Given text element_words item_words (survey_number r) (survey_place r) × (elements ≡ replicate element_words 0) × (items ≡ replicate item_words 0)

-- the survey of a text is done and leaves these two tables, whatever it answers and whatever sizes the tables have
abbrev pub LeavesTables : List ℕ → List ℕ → List ℕ → Type 0
LeavesTables text elements items =
    (element_words : ℕ) × (item_words : ℕ) × (y : Summary) × Permitted text element_words item_words (Ok y) elements items
