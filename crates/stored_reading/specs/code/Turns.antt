-- One field at the front of bytes, and one item. Assumes nothing.
use Rattle.std.specs.Prelude.{ℕ, ◌+◌, Bool, true, false, cond, List, ltb, eqb, length, get_or, take, drop, Option, Some, None}
use Rattle.stored.specs.Fields.{Field, end_tag}
use Rattle.stored.specs.StoredItems.{StoredItem}
use Rattle.stored.specs.Stored.{Form, distinct, item_names}
use Rattle.stored.specs.code.Decode.{length_in, fields_from, kept_in, items_in_fields}
use Rattle.stored_reading.specs.StoredRows.{head_size}
use Rattle.stored_reading.specs.declared.FieldStep.{FieldStep}
use Rattle.stored_reading.specs.declared.FieldStep.TheVariants.{Bad, End, Tagged}
use Rattle.stored_reading.specs.declared.ItemTurn.{ItemTurn}
use Rattle.stored_reading.specs.declared.ItemTurn.TheVariants.{Wrong, Ends, Gives}
use Rattle.stored.specs.declared.StoredValue.{StoredValue}

-- what stands at the front: no field and no end, the end, or a field with its tag and length
unfoldable pub step_of : List ℕ → FieldStep
step_of s =
    cond (ltb (length s) head_size) Bad
    (cond (eqb (get_or s 0 0) end_tag) (cond (eqb (length s) head_size) (cond (eqb (length_in (drop 1 s)) 0) End Bad) Bad)
    (cond (ltb (length s) (head_size + length_in (drop 1 s))) Bad
    (Tagged (get_or s 0 0) (length_in (drop 1 s)))))

-- the same where a field is to be a legal item
unfoldable pub turn_held : Option StoredValue → ℕ → ItemTurn
turn_held None n = Wrong
turn_held (Some v) n = Gives v n

unfoldable pub turn_step : Form → FieldStep → List ℕ → ItemTurn
turn_step F Bad s = Wrong
turn_step F End s = Ends
turn_step F (Tagged t n) s = turn_held (kept_in F t (take n (drop head_size s))) n

unfoldable pub turn_of : Form → List ℕ → ItemTurn
turn_of F s = turn_step F (step_of s) s

-- the items from here
unfoldable pub items_by : Form → Option (List Field) → Option (List StoredItem)
items_by F None = None
items_by F (Some fs) = items_in_fields F fs

unfoldable pub items_at : Form → List ℕ → Option (List StoredItem)
items_at F s = items_by F (fields_from 0 s)

-- so many items, and those from here
unfoldable pub count_with : ℕ → Option (List StoredItem) → Option ℕ
count_with n None = None
count_with n (Some is) = Some (n + length is)

-- a list is there
unfoldable pub there : Option (List StoredItem) → Bool
there None = false
there (Some is) = true

unfoldable pub distinct_items : Option (List StoredItem) → Bool
distinct_items None = true
distinct_items (Some is) = distinct (item_names is)

-- how many items
unfoldable pub items_counted : Option (List StoredItem) → ℕ
items_counted None = 0
items_counted (Some is) = length is
