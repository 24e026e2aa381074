-- What reading an element table's elements as a file answers, and what the lent tree table then holds (01, "Refusals and their order").
-- Assumes nothing: these are definitions.
use Rattle.std.specs.Prelude.{ℕ, ◌-◌, ◌*◌, ◌/◌, min, cond, List, [], ◌∷◌, ◌++◌, leb, length, replicate, Result, Ok, Err}
use Rattle.places.specs.Sizes.{most_elements}
use Rattle.places.specs.Places.{rows_in, kinds_of}
use Rattle.grammars.specs.code.Actions.{End, read, bad, stopped, spent}
use Rattle.same_names.specs.Alike.{same_name}
use Rattle.forms.specs.code.Kinds.{terminal_of}
use Rattle.forms.specs.RowWords.{row_numbers}
use Rattle.forms.specs.code.RuleActions.{State, Refusal, name_differs, too_deep, state_rows}
use Rattle.forms.specs.code.Reading.{file_reading}
use Rattle.refusals.specs.declared.StrictRefusal.{StrictRefusal}
use Rattle.refusals.specs.declared.StrictRefusal.TheVariants as refusal
use Rattle.forms.specs.RowWords.{words_of}

-- a tree, by how many rows it has; or one of 01's refusals 5, 6, 7 and 8
abbrev pub Answer : Type 0
Answer = Result ℕ StrictRefusal

-- how many elements count: no more than the table has, and no more than 8,192 (01, "What the reader covers")
abbrev pub elements_counted : List ℕ → ℕ → ℕ
elements_counted table count = min count (min (rows_in table) most_elements)

-- what kinds are to the forms
abbrev pub terminals_in : List ℕ → List ℕ
terminals_in [] = []
terminals_in (k ∷ p) = terminal_of k ∷ terminals_in p

-- what the first n elements of a table are to them
unfoldable pub terminals_of : ℕ → List ℕ → List ℕ
terminals_of n table = terminals_in (kinds_of n table)

-- the reading of the first n elements
abbrev pub reading_in : List ℕ → List ℕ → ℕ → End State Refusal
reading_in text table n = file_reading (same_name text table) (terminals_of n table)

-- refusals 5, 6 and 7 with their element, and 8 with the rows that the tree table has
abbrev pub no_file_answer : ℕ → Answer
no_file_answer k = Err (refusal.NoFile (record { 0 = k }))

abbrev pub name_differs_answer : ℕ → Answer
name_differs_answer k = Err (refusal.NameDiffers (record { 0 = k }))

abbrev pub too_deep_answer : ℕ → Answer
too_deep_answer k = Err (refusal.TooDeep (record { 0 = k }))

abbrev pub table_short : ℕ → Answer
table_short rows = Err (refusal.TreeShort rows)

-- an action that stops when k elements were read: refusal 6 or 7, at the last of them
abbrev pub stopped_at : ℕ → Refusal → StrictRefusal
stopped_at k name_differs = refusal.NameDiffers (record { 0 = k - 1 })
stopped_at k too_deep = refusal.TooDeep (record { 0 = k - 1 })

-- the answer, if the tree table has room for `room` words
abbrev pub tree_answer_of : ℕ → End State Refusal → Answer
tree_answer_of room (read s) = cond (leb (row_numbers * length (state_rows s)) room) (Ok (length (state_rows s))) (table_short (room / row_numbers))
tree_answer_of room (bad k) = no_file_answer k
tree_answer_of room (stopped k x) = Err (stopped_at k x)
tree_answer_of room spent = no_file_answer 0

-- the tree table afterwards: the rows and then zeros; on a refusal zeros
abbrev pub tree_table_of : ℕ → End State Refusal → List ℕ
tree_table_of room (read s) =
    cond (leb (row_numbers * length (state_rows s)) room) (words_of (state_rows s) ++ replicate (room - row_numbers * length (state_rows s)) 0) (replicate room 0)
tree_table_of room (bad k) = replicate room 0
tree_table_of room (stopped k r) = replicate room 0
tree_table_of room spent = replicate room 0
