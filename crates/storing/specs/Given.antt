-- When each refusal of storing a survey is given: "Refusals: the survey's own; 21, survey not whole; 22, output short". Assumes nothing: these are definitions.
use Rattle.std.specs.Prelude.{ℕ, ◌*◌, ◌≤◌, ◌<◌, List, [], length}
use Rattle.places.specs.Sizes.{most_pieces}
use Rattle.pieces.specs.Records.{record_words}
use Rattle.element_reading.specs.Given.{Taken}
use Rattle.meaning.specs.Pieces.{pieces_of}
use Rattle.meaning.specs.Names.{Done}
use Rattle.meaning.specs.Meaning.{Come}
use Rattle.meaning.specs.Together.{IsWhole}
use Rattle.survey_reading.specs.Given as survey
pub use Rattle.refusals.specs.Refusals.{not_whole_number, output_short_number}
use Rattle.storing.specs.SurveyItems.{survey_bytes}

-- no refusal of the survey is due, and the text's pieces come to these
pub record Surveyed (text : List ℕ) (element_words item_words : ℕ) (dones : List Done) : Type 0 where
  pub taken : Taken text element_words
  pub few : length (pieces_of text) ≤ most_pieces
  pub room : record_words * length (pieces_of text) ≤ item_words
  pub come : Come (pieces_of text) [] (pieces_of text) dones

-- a line to each: its number, when it is given, and its place, "the room there is where room is short, else 0"; the output has `out_bytes` bytes
pub data Given (text : List ℕ) (element_words item_words out_bytes : ℕ) : ℕ → ℕ → Type 0 where
  of_survey : {number place : ℕ} → survey.Given text element_words item_words number place → Given text element_words item_words out_bytes number place
  not_whole : {dones : List Done} → Surveyed text element_words item_words dones → (IsWhole (pieces_of text) dones → ⊥) → Given text element_words item_words out_bytes not_whole_number 0
  output_short : {dones : List Done} → Surveyed text element_words item_words dones → IsWhole (pieces_of text) dones → out_bytes < length (survey_bytes text dones)
      → Given text element_words item_words out_bytes output_short_number out_bytes
