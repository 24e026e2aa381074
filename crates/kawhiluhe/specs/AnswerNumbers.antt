-- The readers' answers as numbers, 0 for what is absent. Assumes nothing.
use Rattle.std.specs.Prelude.{ℕ, ◌≡◌, List, Option, Some, None, Result, Ok, Err, replicate}
use Rattle.states.specs.States.{states}
use Rattle.places.specs.declared.ElementNumber.{ElementNumber}
use Rattle.refusals.specs.Refusals.{refusal_number, refusal_place}
use Rattle.refusals.specs.declared.Refusal.{Refusal}
use Rattle.refusals.specs.declared.StrictRefusal.{StrictRefusal}
use Rattle.refusals.specs.declared.SurveyRefusal.{SurveyRefusal}
use Rattle.refusals.specs.Refusals.{strict_number, strict_place}
use Rattle.strict_reading.specs.declared.Judgement.{Judgement}
use Rattle.strict_reading.specs.Permitted as strict
use Rattle.survey_reading.specs.Permitted as survey
use Rattle.verdict.specs.declared.Verdict.TheVariants.{Passes, NotSupported}
use Rattle.records.specs.Counting.{one_if}
use Rattle.refusals.specs.Refusals.{survey_number, survey_place}
use Rattle.survey_reading.specs.declared.Summary.{Summary}
use Rattle.verdict.specs.declared.Verdict.{Verdict}
use Rattle.kawhiluhe.specs.declared.Elements.{Elements}
use Rattle.kawhiluhe.specs.declared.Judged.{Judged}
use Rattle.kawhiluhe.specs.declared.Surveyed.{Surveyed}

-- the element reader's answer: a refusal and its place, or how many elements there are
abbrev pub element_numbers : Result ElementNumber Refusal → Elements
element_numbers (Ok n) = record { refusal = 0; place = 0; elements = n.0 }
element_numbers (Err r) = record { refusal = refusal_number r; place = refusal_place r; elements = 0 }

abbrev pub judged_numbers : ℕ → Verdict → Judged
judged_numbers rows Passes = record { refusal = 0; place = 0; rows = rows; passes = 1; row = 0 }
judged_numbers rows (NotSupported i) = record { refusal = 0; place = 0; rows = rows; passes = 0; row = i }

-- the strict reading's: a refusal and its place, or the tree's rows and the verdict, 1 where the file passes, else the row named
abbrev pub strict_numbers : Result Judgement StrictRefusal → Judged
strict_numbers (Ok j) = judged_numbers j.rows j.verdict
strict_numbers (Err r) = record { refusal = strict_number r; place = strict_place r; rows = 0; passes = 0; row = 0 }

-- what it may answer in these numbers, and leave in the two lent tables
abbrev pub StrictPermitted : List ℕ → ℕ → ℕ → Judged → (elements tree : List ℕ) → Type 0
StrictPermitted text element_words tree_words j elements tree = (a : Result Judgement StrictRefusal) × ((j ≡ strict_numbers a) × strict.Permitted text element_words tree_words a elements tree)

-- whether there is a pair, its earlier piece and its later one
abbrev pub pair_number : Option (ℕ × ℕ) → ℕ
pair_number (Some (i, j)) = 1
pair_number None = 0

abbrev pub earlier_number : Option (ℕ × ℕ) → ℕ
earlier_number (Some (i, j)) = i
earlier_number None = 0

abbrev pub later_number : Option (ℕ × ℕ) → ℕ
later_number (Some (i, j)) = j
later_number None = 0

-- the survey's: a refusal and its place, or pieces, frame, whole and pair; and the tally, which is all zeros on a refusal
abbrev pub survey_numbers : Result Summary SurveyRefusal → Surveyed
survey_numbers (Ok s) = record {
  refusal = 0;
  place = 0;
  pieces = s.pieces;
  frame = one_if s.frame;
  whole = one_if s.whole;
  pair = pair_number s.pair;
  earlier = earlier_number s.pair;
  later = later_number s.pair;
  tally = s.tally.counts;
}
survey_numbers (Err r) =
    record { refusal = survey_number r; place = survey_place r; pieces = 0; frame = 0; whole = 0; pair = 0; earlier = 0; later = 0; tally = replicate states 0 }

abbrev pub SurveyPermitted : List ℕ → ℕ → ℕ → Surveyed → (elements items : List ℕ) → Type 0
SurveyPermitted text element_words item_words y elements items = (a : Result Summary SurveyRefusal) × ((y ≡ survey_numbers a) × survey.Permitted text element_words item_words a elements items)

-- a survey that is refused has no tally: of what it answers all eleven counts are 0
abbrev pub RefusedTally : Type 0
RefusedTally =
    (text : List ℕ) (element_words item_words : ℕ) (y : Surveyed) (elements items : List ℕ) → SurveyPermitted text element_words item_words y elements items
    → (y.refusal ≡ 0 → ⊥) → y.tally ≡ replicate states 0

-- the record's number, or another number where there is none
abbrev pub found_number : Option ℕ → ℕ → ℕ
found_number (Some i) none = i
found_number None none = none
