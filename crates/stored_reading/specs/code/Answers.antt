-- What the code finds of the decoded table, and answers. Assumes nothing.
use Rattle.stored_reading.specs.Permitted.{read_table}
use Rattle.std.specs.Prelude.{ℕ, ◌+◌, ◌-◌, ◌*◌, cond, List, [], ◌∷◌, ◌++◌, ltb, length, replicate, Option, Some, None, Err, Ok}
use Rattle.stored.specs.StoredItems.{StoredItem, value_size}
use Rattle.stored.specs.code.Decode.{Table, broken, table}
use Rattle.stored_reading.specs.StoredRows.{head_size, size_of, stored_row_words, stored_rows_from}
use Rattle.stored_reading.specs.Permitted.{stored_rows_in}
use Rattle.stored_reading.specs.declared.StoredRefusal.TheVariants.{NotStored, ItemsShort}
use Rattle.stored_reading.specs.Permitted.{StoredReading}

unfoldable pub rows_at : ℕ → Option (List StoredItem) → List ℕ
rows_at at None = []
rows_at at (Some is) = stored_rows_from at is

-- where the items' names stand, and how long they are
unfoldable pub firsts_from : ℕ → List StoredItem → List ℕ
firsts_from at [] = []
firsts_from at (i ∷ is) = (at + (head_size + value_size i.value)) ∷ firsts_from (at + size_of i) is

unfoldable pub firsts_at : ℕ → Option (List StoredItem) → List ℕ
firsts_at at None = []
firsts_at at (Some is) = firsts_from at is

unfoldable pub sizes_from : List StoredItem → List ℕ
sizes_from [] = []
sizes_from (i ∷ is) = length i.name ∷ sizes_from is

unfoldable pub sizes_at : Option (List StoredItem) → List ℕ
sizes_at None = []
sizes_at (Some is) = sizes_from is

-- where the items begin, and how many there are
unfoldable pub examined_of : Table → Option (ℕ × ℕ)
examined_of broken = None
examined_of (table n is) = Some (head_size + length n, length is)

-- what reading into a table of w words answers, and leaves there
unfoldable pub stored_answer : Table → ℕ → StoredReading
stored_answer broken w = Err NotStored
stored_answer (table n is) w = cond (ltb (stored_rows_in w) (length is)) (Err (ItemsShort (stored_rows_in w))) (read_table (record { 0 = head_size }) (length n) (length is))

unfoldable pub rows_for : StoredReading → Table → ℕ → List ℕ
rows_for (Err r) t w = replicate w 0
rows_for (Ok r) broken w = replicate w 0
rows_for (Ok r) (table n is) w = stored_rows_from (head_size + length n) is ++ replicate (w - stored_row_words * length is) 0

unfoldable pub stored_rows : Table → ℕ → List ℕ
stored_rows t w = rows_for (stored_answer t w) t w
