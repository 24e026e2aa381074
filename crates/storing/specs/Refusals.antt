-- The number and the place of each refusal to store a survey, 0 and 0 where it is stored: "A new refusal's place .. is the room there is where
-- room is short, else 0." Assumes nothing.
use Rattle.std.specs.Prelude.{ℕ, Ok, Err, Result}
use Rattle.refusals.specs.Refusals.{survey_number, survey_place, not_whole_number, output_short_number}
use Rattle.storing.specs.declared.StoringRefusal.{StoringRefusal}
use Rattle.storing.specs.declared.StoringRefusal.TheVariants as refusal

-- what storing answers: how many bytes were written, or a refusal
abbrev pub Storing : Type 0
Storing = Result ℕ StoringRefusal

abbrev pub storing_number : Storing → ℕ
storing_number (Err (refusal.Survey r)) = survey_number r
storing_number (Err refusal.NotWhole) = not_whole_number
storing_number (Err (refusal.OutputShort room)) = output_short_number
storing_number (Ok n) = 0

abbrev pub storing_place : Storing → ℕ
storing_place (Err (refusal.Survey r)) = survey_place r
storing_place (Err refusal.NotWhole) = 0
storing_place (Err (refusal.OutputShort room)) = room
storing_place (Ok n) = 0
