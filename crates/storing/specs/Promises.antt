-- What storing a survey promises beside its contract, as statements: proofs/Promises.antt proves each. Assumes nothing: these are definitions.
use Rattle.std.specs.Prelude.{ℕ, ◌≤◌, ◌≡◌, ◌↔◌, Bool, true, ◌&&◌, List, [], ◌∷◌, length, Err}
use Rattle.refusals.specs.Refusals.{survey_number, survey_place}
use Rattle.refusals.specs.declared.SurveyRefusal.{SurveyRefusal}
use Rattle.survey_reading.specs.Given as survey
use Rattle.stored.specs.Fields.{all_writable}
use Rattle.stored.specs.StoredItems.{StoredItem}
use Rattle.stored.specs.Stored.{stored_fields, form_one, most_items, sized}
use Rattle.meaning.specs.Pieces.{pieces_of}
use Rattle.meaning.specs.Names.{Done}
use Rattle.meaning.specs.Together.{IsWhole}
use Rattle.storing.specs.SurveyItems.{package_name, stored_items}
use Rattle.storing.specs.Given.{Surveyed, Given, not_whole_number, output_short_number}
use Rattle.storing.specs.Permitted.{Permitted}
use Rattle.storing.specs.Refusals.{Storing}
use Rattle.storing.specs.declared.StoringRefusal.TheVariants as refusal

-- There is a right answer to every text, with tables and an output of any size.
abbrev pub Answered : Type 0
Answered = (s : List ℕ) (e i o : ℕ) → (a : Storing) × (t : List ℕ) × (u : List ℕ) × (v : List ℕ) × Permitted s e i o a t u v

-- Any two answers that the contract of `store_survey` permits coincide, and so do the two tables and the output.
abbrev pub NoChoice : Type 0
NoChoice =
    (s : List ℕ) (e i o : ℕ) (a a' : Storing) (t t' u u' v v' : List ℕ) → Permitted s e i o a t u v → Permitted s e i o a' t' u' v'
    → (a ≡ a') × (t ≡ t') × (u ≡ u') × (v ≡ v')

-- Each refusal is given exactly where its line says: the survey's own just as the survey gives them, 21 where it is not whole, 22 where the room is
-- short of the bytes.
abbrev pub RefusalsExact : Type 0
RefusalsExact =
    (s : List ℕ) (e i o : ℕ) (a : Storing) (t u v : List ℕ) → Permitted s e i o a t u v
    → ((r : SurveyRefusal) → (a ≡ Err (refusal.Survey r)) ↔ survey.Given s e i (survey_number r) (survey_place r))
    × ((a ≡ Err refusal.NotWhole) ↔ Given s e i o not_whole_number 0) × ((a ≡ Err (refusal.OutputShort o)) ↔ Given s e i o output_short_number o)

-- Two bytes of length always suffice: every field of a whole survey can be written, whatever text within 01's sizes it has.
abbrev pub LengthsSuffice : Type 0
LengthsSuffice =
    (s : List ℕ) (e i : ℕ) (dones : List Done) → Surveyed s e i dones → IsWhole (pieces_of s) dones
    → all_writable (stored_fields form_one (package_name (pieces_of s)) (stored_items dones)) ≡ true

-- "at most 1,024 items": no survey that is stored has more.
abbrev pub ItemsFew : Type 0
ItemsFew = (s : List ℕ) (e i : ℕ) (dones : List Done) → Surveyed s e i dones → length (stored_items dones) ≤ most_items

-- "numbers up to 2147483647 in size": those of every item that is stored are.
abbrev pub all_sized : List StoredItem → Bool
all_sized [] = true
all_sized (i ∷ is) = sized i.value && all_sized is

abbrev pub NumbersSized : Type 0
NumbersSized = (s : List ℕ) (e i : ℕ) (dones : List Done) → Surveyed s e i dones → all_sized (stored_items dones) ≡ true
