-- What storing a survey may answer, and leave in the two tables and the output that it is lent: one predicate, which is the contract. Assumes
-- nothing: these are definitions.
use Rattle.std.specs.Prelude.{ℕ, ◌-◌, ◌*◌, ◌≤◌, ◌≡◌, List, ◌++◌, length, replicate, Ok, Err}
use Rattle.places.specs.Places.{row_words}
use Rattle.pieces.specs.Records.{record_words}
use Rattle.element_reading.specs.Rows.{rows_of}
use Rattle.element_reading.specs.Table.{cells}
use Rattle.element_reading.specs.Given.{element_count}
use Rattle.meaning.specs.Pieces.{pieces_of}
use Rattle.meaning.specs.Names.{Done}
use Rattle.meaning.specs.Records.{records_from}
use Rattle.meaning.specs.Together.{IsWhole}
use Rattle.storing.specs.SurveyItems.{survey_bytes}
use Rattle.storing.specs.Refusals.{storing_number, storing_place}
use Rattle.storing.specs.Given.{Surveyed, Given}
use Rattle.storing.specs.Refusals.{Storing}
use Rattle.storing.specs.declared.StoringRefusal.TheVariants as refusal

-- a survey that is stored, in n bytes: the tables are as the survey leaves them, and what the output has besides is zeros
pub record Kept (text : List ℕ) (element_words item_words out_bytes n : ℕ) (elements items out : List ℕ) : Type 0 where
  pub dones : List Done
  pub surveyed : Surveyed text element_words item_words dones
  pub whole : IsWhole (pieces_of text) dones
  pub size : n ≡ length (survey_bytes text dones)
  pub fits : n ≤ out_bytes
  pub elements_are : elements ≡ cells (rows_of text) ++ replicate (element_words - row_words * element_count text) 0
  pub items_are : items ≡ records_from 0 dones ++ replicate (item_words - record_words * length (pieces_of text)) 0
  pub out_is : out ≡ survey_bytes text dones ++ replicate (out_bytes - n) 0

-- a refusal, with its number and its place: tables and output are all zeros after any
abbrev pub RefusedAt : List ℕ → ℕ → ℕ → ℕ → ℕ → ℕ → List ℕ → List ℕ → List ℕ → Type 0
RefusedAt text element_words item_words out_bytes number place elements items out =
    Given text element_words item_words out_bytes number place × (elements ≡ replicate element_words 0) × (items ≡ replicate item_words 0) × (out ≡ replicate out_bytes 0)

abbrev pub Permitted : List ℕ → ℕ → ℕ → ℕ → Storing → List ℕ → List ℕ → List ℕ → Type 0
Permitted text element_words item_words out_bytes (Err (refusal.Survey r)) elements items out = RefusedAt text element_words item_words out_bytes (storing_number (Err (refusal.Survey r))) (storing_place (Err (refusal.Survey r))) elements items out
Permitted text element_words item_words out_bytes (Err refusal.NotWhole) elements items out = RefusedAt text element_words item_words out_bytes (storing_number (Err refusal.NotWhole)) (storing_place (Err refusal.NotWhole)) elements items out
Permitted text element_words item_words out_bytes (Err (refusal.OutputShort room)) elements items out = RefusedAt text element_words item_words out_bytes (storing_number (Err (refusal.OutputShort room))) (storing_place (Err (refusal.OutputShort room))) elements items out
Permitted text element_words item_words out_bytes (Ok n) elements items out = Kept text element_words item_words out_bytes n elements items out
