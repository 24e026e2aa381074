-- The listing of a text: the lines of what a reader of it may answer and leave in its lent tables, of so many words each. proofs/Promises.antt
-- proves that it is one. Assumes nothing: these are definitions.
use Rattle.std.specs.Prelude.{ℕ, ◌≡◌, List, Result}
use Rattle.element_reading.specs.Reading.{reading_of, table_of}
use Rattle.refusals.specs.declared.StrictRefusal.{StrictRefusal}
use Rattle.refusals.specs.declared.SurveyRefusal.{SurveyRefusal}
use Rattle.strict_reading.specs.declared.Judgement.{Judgement}
use Rattle.strict_reading.specs.Permitted as strict
use Rattle.survey_reading.specs.declared.Summary.{Summary}
use Rattle.survey_reading.specs.Permitted as survey
use Rattle.item_lines.specs.Lines.{survey_listing}
use Rattle.record_lines.specs.Lines.{record_listing}
use Rattle.tree_lines.specs.Lines.{tree_listing}
use Rattle.element_lines.specs.Lines.{element_listing}
use Rattle.kawhiluhe.specs.AnswerNumbers.{element_numbers, strict_numbers, survey_numbers}
use Rattle.kawhiluhe.specs.AnswerWords.{element_words, judged_words, surveyed_words}

-- what `survey` prints of a text
abbrev pub IsItemListing : List ℕ → ℕ → ℕ → List ℕ → Type 0
IsItemListing text element_room item_room bytes =
    (x : Result Summary SurveyRefusal) × ((elements : List ℕ) × ((items : List ℕ)
    × (survey.Permitted text element_room item_room x elements items × (bytes ≡ survey_listing text elements items (surveyed_words (survey_numbers x))))))

-- what `survey --records` prints
abbrev pub IsRecordListing : List ℕ → ℕ → ℕ → List ℕ → Type 0
IsRecordListing text element_room item_room bytes =
    (x : Result Summary SurveyRefusal) × ((elements : List ℕ) × ((items : List ℕ)
    × (survey.Permitted text element_room item_room x elements items × (bytes ≡ record_listing items (surveyed_words (survey_numbers x))))))

-- what `strict` prints
abbrev pub IsTreeListing : List ℕ → ℕ → ℕ → List ℕ → Type 0
IsTreeListing text element_room tree_room bytes =
    (x : Result Judgement StrictRefusal) × ((elements : List ℕ) × ((tree : List ℕ)
    × (strict.Permitted text element_room tree_room x elements tree × (bytes ≡ tree_listing tree (judged_words (strict_numbers x))))))

-- what `strict --elements` prints
unfoldable pub elements_listed : List ℕ → ℕ → List ℕ
elements_listed text element_room = element_listing (table_of text element_room) (element_words (element_numbers (reading_of text element_room)))

-- Any two listings of a text coincide, and every text has one.
abbrev pub OneOf : (List ℕ → ℕ → ℕ → List ℕ → Type 0) → Type 0
OneOf Is = (text : List ℕ) (e i : ℕ) (bytes bytes' : List ℕ) → Is text e i bytes → Is text e i bytes' → bytes ≡ bytes'

abbrev pub SomeOf : (List ℕ → ℕ → ℕ → List ℕ → Type 0) → Type 0
SomeOf Is = (text : List ℕ) (e i : ℕ) → (bytes : List ℕ) × Is text e i bytes

abbrev pub OneItemListing : Type 0
OneItemListing = OneOf IsItemListing

abbrev pub OneRecordListing : Type 0
OneRecordListing = OneOf IsRecordListing

abbrev pub OneTreeListing : Type 0
OneTreeListing = OneOf IsTreeListing

abbrev pub SomeItemListing : Type 0
SomeItemListing = SomeOf IsItemListing

abbrev pub SomeRecordListing : Type 0
SomeRecordListing = SomeOf IsRecordListing

abbrev pub SomeTreeListing : Type 0
SomeTreeListing = SomeOf IsTreeListing
