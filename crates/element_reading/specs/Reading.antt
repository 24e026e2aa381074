-- The one answer that is permitted, and the one content of the table, as functions of the text and of how many words the table has: what the
-- definitions of later layers go on from. Assumes nothing.
use Rattle.std.specs.Prelude.{ℕ, ◌-◌, ◌*◌, ◌/◌, cond, List, ◌++◌, Result, Ok, Err, ltb, length, replicate}
use Rattle.places.specs.Sizes.{most_bytes, most_elements}
use Rattle.places.specs.Places.{row_words}
use Rattle.element_reading.specs.Rows.{rows_of}
use Rattle.element_reading.specs.Table.{cells}
use Rattle.places.specs.declared.ElementNumber.{ElementNumber}
use Rattle.refusals.specs.declared.Refusal.{Refusal}
use Rattle.refusals.specs.declared.Refusal.TheVariants.{TextTooLong, TooManyElements, TableShort}

-- 1: text too long; 3: more than 8,192 elements; 4: element table short, "rows it has". "They are tested in this order"
unfoldable pub reading_of : List ℕ → ℕ → Result ElementNumber Refusal
reading_of s words =
    cond (ltb most_bytes (length s)) (Err (TextTooLong (record { 0 = most_bytes })))
    (cond (ltb most_elements (length (rows_of s))) (Err (TooManyElements (record { 0 = most_elements })))
    (cond (ltb (words / row_words) (length (rows_of s))) (Err (TableShort (record { 0 = words / row_words })))
    (Ok (record { 0 = length (rows_of s) }))))

-- "On refusal every lent table is all zeros. On success unused rows are zeros."
abbrev pub table_by : Result ElementNumber Refusal → List ℕ → ℕ → List ℕ
table_by (Err r) s words = replicate words 0
table_by (Ok n) s words = cells (rows_of s) ++ replicate (words - row_words * length (rows_of s)) 0

unfoldable pub table_of : List ℕ → ℕ → List ℕ
table_of s words = table_by (reading_of s words) s words
