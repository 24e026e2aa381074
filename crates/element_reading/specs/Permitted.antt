-- What reading a text into a lent table of so many words may answer, and what the table may hold then: 01's "Refusals and their order", of
-- which 1, 3 and 4 concern the elements. Assumes nothing: these are definitions.
use Rattle.std.specs.Prelude.{ℕ, ◌-◌, ◌*◌, ◌≡◌, List, ◌++◌, Result, Ok, Err, replicate}
use Rattle.places.specs.Places.{row_words}
use Rattle.refusals.specs.Refusals.{refusal_number, refusal_place}
use Rattle.element_reading.specs.Rows.{rows_of}
use Rattle.element_reading.specs.Table.{cells}
use Rattle.element_reading.specs.Given.{element_count, Taken, Given}
use Rattle.places.specs.declared.ElementNumber.{ElementNumber}
use Rattle.refusals.specs.declared.Refusal.{Refusal}

-- All elements are read, and "On success unused rows are zeros."; or a refusal is given by 01's table, and "On refusal every lent table is all
-- zeros."
abbrev pub Permitted : List ℕ → ℕ → Result ElementNumber Refusal → List ℕ → Type 0
Permitted text words (Ok n) table =
    Taken text words × (n.0 ≡ element_count text) × (table ≡ cells (rows_of text) ++ replicate (words - row_words * element_count text) 0)
Permitted text words (Err r) table = Given text words (refusal_number r) (refusal_place r) × (table ≡ replicate words 0)
