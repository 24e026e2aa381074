-- What the strict reading promises, as statements: proofs/Promises.antt proves them. `table` is an element table, `n` how many of its
-- elements count, `room` how many words the lent tree table has. Assumes nothing: these are definitions.
use Rattle.std.specs.Prelude.{ℕ, ◌*◌, ◌-◌, ◌/◌, ◌≤◌, ◌<◌, ◌≡◌, ◌↔◌, List, ◌++◌, length, replicate, Ok}
use Rattle.same_names.specs.Alike.{same_name}
use Rattle.forms.specs.RowWords.{row_numbers}
use Rattle.forms.specs.code.RuleActions.{State, state_rows, Reading}
use Rattle.forms.specs.Files.{Tiled, TreeFits}
use Rattle.forms.specs.OperatorElements.{OperatorsRight}
use Rattle.forms.specs.Owners.{AllOwned, OwnedOnce, LeavesAre}
use Rattle.forms.specs.Labels.{LabelsLead}
use Rattle.tree.specs.code.Answers.{terminals_of, reading_in, tree_answer_of, tree_table_of, no_file_answer, name_differs_answer, too_deep_answer, table_short, Answer}
use Rattle.forms.specs.RowWords.{words_of}
use Rattle.tree_promises.specs.Due.{SomeDue, NoFileFirst, NameFirst, DepthFirst}

-- what the first n elements are to the forms
abbrev pub FirstElements : List ℕ → ℕ → List ℕ
FirstElements table n = terminals_of n table

-- the elements are a file, whose closing names agree and which never has more than 32 open; s is what it gives
abbrev pub ReadsAsFile : List ℕ → List ℕ → ℕ → State → Type 0
ReadsAsFile text table n s = Reading (same_name text table) (FirstElements table n) s

-- the answer, and the tree table afterwards
abbrev pub tree_answer : List ℕ → List ℕ → ℕ → ℕ → Answer
tree_answer text table n room = tree_answer_of room (reading_in text table n)

abbrev pub tree_left : List ℕ → List ℕ → ℕ → ℕ → List ℕ
tree_left text table n room = tree_table_of room (reading_in text table n)

-- A tree is answered exactly where the elements are a file and the tree table has room for its rows, and it is that file's rows.
abbrev pub Accepts : Type 0
Accepts =
    (text table : List ℕ) (n room rows : ℕ)
    → (tree_answer text table n room ≡ Ok rows) ↔ ((s : State) × (ReadsAsFile text table n s × (length (state_rows s) ≡ rows) × (row_numbers * rows ≤ room)))

-- The table then has the file's rows, parent first, and zeros.
abbrev pub HasRows : Type 0
HasRows =
    (text table : List ℕ) (n room : ℕ) (s : State) → ReadsAsFile text table n s → row_numbers * length (state_rows s) ≤ room
    → tree_left text table n room ≡ words_of (state_rows s) ++ replicate (room - row_numbers * length (state_rows s)) 0

-- There is one tree: two readings of the same elements give the same.
abbrev pub OneTree : Type 0
OneTree = (text table : List ℕ) (n : ℕ) (s t : State) → ReadsAsFile text table n s → ReadsAsFile text table n t → s ≡ t

-- Refusals 5, 6 and 7 are answered exactly where 01 says: at the first place at which one of them is due, and of those that are due there
-- the one that 01's table has first. Due.antt says when each is due, of the elements alone.
abbrev pub NoFileExactly : Type 0
NoFileExactly = (text table : List ℕ) (n room k : ℕ) → (tree_answer text table n room ≡ no_file_answer k) ↔ NoFileFirst (same_name text table) (FirstElements table n) k

abbrev pub NameDiffersExactly : Type 0
NameDiffersExactly = (text table : List ℕ) (n room k : ℕ) → (tree_answer text table n room ≡ name_differs_answer k) ↔ NameFirst (same_name text table) (FirstElements table n) k

abbrev pub TooDeepExactly : Type 0
TooDeepExactly = (text table : List ℕ) (n room k : ℕ) → (tree_answer text table n room ≡ too_deep_answer k) ↔ DepthFirst (same_name text table) (FirstElements table n) k

-- The elements are a file, with names that agree and never more than 32 open, exactly where none of the three is due at any place.
abbrev pub FileExactly : Type 0
FileExactly =
    (text table : List ℕ) (n : ℕ)
    → ((k : ℕ) → SomeDue (same_name text table) (FirstElements table n) k → ⊥) ↔ ((s : State) × ReadsAsFile text table n s)

-- Refusal 8 is answered exactly where the elements are a file and the table is short of its rows, and the place is the rows that it has.
abbrev pub IsShort : Type 0
IsShort =
    (text table : List ℕ) (n room k : ℕ)
    → (tree_answer text table n room ≡ table_short k) ↔ ((k ≡ room / row_numbers) × ((s : State) × (ReadsAsFile text table n s × (room < row_numbers * length (state_rows s)))))

-- On a refusal the tree table is all zeros.
abbrev pub ZerosElse : Type 0
ZerosElse = (text table : List ℕ) (n room : ℕ) → ((rows : ℕ) → tree_answer text table n room ≡ Ok rows → ⊥) → tree_left text table n room ≡ replicate room 0

-- The rows of a file are trees that stand one right after the other, over all its elements: every row's subtree count and span hold its
-- children and nothing else.
abbrev pub RowsNest : Type 0
RowsNest = (text table : List ℕ) (n : ℕ) (s : State) → ReadsAsFile text table n s → Tiled 0 n (state_rows s)

-- The leaves of the rows, read in order, are the elements, each once, and each hangs on one row, the innermost that spans it: both are told
-- from the rows alone (`forms/specs/Owners.antt`).
abbrev pub LeavesInOrder : Type 0
LeavesInOrder =
    (text table : List ℕ) (n : ℕ) (s : State) → ReadsAsFile text table n s
    → LeavesAre n (state_rows s) × AllOwned (FirstElements table n) (state_rows s) × OwnedOnce (FirstElements table n) (state_rows s)

-- The operator column of every row of a file: in form 28 one of the row's own leaves, a sign, abs or not before one operand; in form 29 one,
-- a binary operator between two; in every other form its first element.
abbrev pub OperatorColumn : Type 0
OperatorColumn = (text table : List ℕ) (n : ℕ) (s : State) → ReadsAsFile text table n s → OperatorsRight (FirstElements table n) (state_rows s)

-- What stands on the rows of a file: the outermost are units, and the own items of every row, its elements outside its children and its
-- children in text order, fit its form's line of 01's table (`forms/specs/FormLines.antt`).
abbrev pub RowsFitLines : Type 0
RowsFitLines = (text table : List ℕ) (n : ℕ) (s : State) → ReadsAsFile text table n s → TreeFits (FirstElements table n) (state_rows s)

-- A label's row stands right after that of the statement which it leads.
abbrev pub EachLabelLeads : Type 0
EachLabelLeads = (text table : List ℕ) (n : ℕ) (s : State) → ReadsAsFile text table n s → LabelsLead (state_rows s)
