-- The number and the place of each refusal to store again what was read, 0 and 0 where it is stored: "24, .. then 10", and 22; "A new refusal's
-- place .. is the room there is where room is short, else 0." Assumes nothing.
use Rattle.std.specs.Prelude.{ℕ, Ok, Err, Result}
use Rattle.refusals.specs.Refusals.{output_short_number}
use Rattle.stored_reading.specs.Refusals.{stored_number, stored_place}
use Rattle.storing_again.specs.declared.AgainRefusal.{AgainRefusal}
use Rattle.storing_again.specs.declared.AgainRefusal.TheVariants as again

-- what storing again answers: how many bytes were written, or a refusal
abbrev pub Again : Type 0
Again = Result ℕ AgainRefusal

abbrev pub again_number : Again → ℕ
again_number (Err (again.Reading r)) = stored_number r
again_number (Err (again.OutputShort room)) = output_short_number
again_number (Ok n) = 0

abbrev pub again_place : Again → ℕ
again_place (Err (again.Reading r)) = stored_place r
again_place (Err (again.OutputShort room)) = room
again_place (Ok n) = 0
