-- What the survey promises beside its contract, as statements: proofs/Promises.antt proves each. Assumes nothing: these are definitions.
use Rattle.std.specs.Prelude.{ℕ, ◌*◌, ◌≤◌, ◌≡◌, ◌↔◌, true, List, Result, Ok, Err, length, get_or, replicate}
use Rattle.states.specs.States as state
use Rattle.places.specs.Sizes.{most_pieces}
use Rattle.pieces.specs.Records.{record_words}
use Rattle.records.specs.Tallies.{in_state}
use Rattle.records.specs.Frames.{frame_good}
use Rattle.names.specs.code.Names.{shared_pair}
use Rattle.element_reading.specs.Rows.{rows_of}
use Rattle.element_reading.specs.Given.{Taken}
use Rattle.element_reading.specs.Reading as elements
use Rattle.meaning.specs.Pieces.{pieces_of}
use Rattle.survey_reading.specs.code.Survey.{survey_of, elements_after_survey, items_after, item_table}
use Rattle.survey_reading.specs.Given.{Given}
use Rattle.survey_reading.specs.Permitted.{Permitted}
use Rattle.survey_reading.specs.declared.Summary.{Summary}
use Rattle.refusals.specs.Refusals.{survey_number, survey_place}
use Rattle.refusals.specs.declared.SurveyRefusal.{SurveyRefusal}

-- Any two answers that the contract of `read_survey` permits coincide, and so do the two tables.
abbrev pub NoChoice : Type 0
NoChoice =
    (s : List ℕ) (e i : ℕ) (x x' : Result Summary SurveyRefusal) (t t' u u' : List ℕ) → Permitted s e i x t u → Permitted s e i x' t' u' → (x ≡ x') × (t ≡ t') × (u ≡ u')

-- A refusal leaves both tables all zeros.
abbrev pub ZerosOnRefusal : Type 0
ZerosOnRefusal =
    (s : List ℕ) (e i : ℕ) (r : SurveyRefusal) → survey_of s e i ≡ Err r
    → (elements_after_survey s e i ≡ replicate e 0) × (items_after s e i ≡ replicate i 0)

-- A text is surveyed exactly when none of 1, 3, 4 refuses it and its pieces are at most 1,024, with a record to each.
abbrev pub SurveyedExactly : Type 0
SurveyedExactly =
    (s : List ℕ) (e i : ℕ)
    → ((y : Summary) × (survey_of s e i ≡ Ok y)) ↔ (Taken s e × (length (pieces_of s) ≤ most_pieces) × (record_words * length (pieces_of s) ≤ i))

-- Each refusal is given exactly when 01's table says, with its number and its place.
abbrev pub RefusedExactly : Type 0
RefusedExactly = (s : List ℕ) (e i : ℕ) (r : SurveyRefusal) → (survey_of s e i ≡ Err r) ↔ Given s e i (survey_number r) (survey_place r)

-- What a survey that is done says: the frame is that of its elements' pieces, the first pair that of its records, each count of the tally is the number of items in
-- that state, and it is whole when the frame is good and every item is in state 0.
abbrev pub SaysOfRecords : Type 0
SaysOfRecords =
    (s : List ℕ) (e i : ℕ) (y : Summary) → survey_of s e i ≡ Ok y
    → (items_after s e i ≡ item_table s i) × (elements_after_survey s e i ≡ elements.table_of s e) × (y.pieces ≡ length (pieces_of s))
    × (y.frame ≡ frame_good s (elements.table_of s e) (length (rows_of s))) × (y.pair ≡ shared_pair s (elements.table_of s e) (item_table s i) (length (pieces_of s)))
    × ((k : ℕ) → k ≤ state.range → get_or y.tally.counts k 0 ≡ in_state k (item_table s i) 0 (length (pieces_of s)))
    × ((y.whole ≡ true) ↔ ((y.frame ≡ true) × ((k : ℕ) → 1 ≤ k → k ≤ state.range → in_state k (item_table s i) 0 (length (pieces_of s)) ≡ 0)))
