-- The synthesis verdict (01, "Forms of the strict reading", from 001), said of the rows of a tree, the text and its element table. Assumes
-- nothing: these are definitions.
use Rattle.std.specs.Prelude.{ℕ, zero, suc, ◌<◌, ◌≡◌, List, [], ◌∷◌}
use Rattle.form_numbers.specs.Statements as form_number
use Rattle.forms.specs.Tree.{Row}
use Rattle.forms.specs.Labels.{Leads}
use Rattle.verdict.specs.declared.Verdict.{Verdict}
use Rattle.verdict.specs.declared.Verdict.TheVariants.{Passes, NotSupported}

-- row j is this one
abbrev pub IsRow : List Row → ℕ → Row → Type 0
IsRow [] j r = ⊥
IsRow (x ∷ l) zero r = x ≡ r
IsRow (x ∷ l) (suc j) r = IsRow l j r

-- "not supported are forms 19, 20, 32, 33"
pub data FormFails : ℕ → Type 0 where
  while_loops : FormFails form_number.while_loop
  bare_loops : FormFails form_number.bare_loop
  guards : FormFails form_number.guard
  block_is_words : FormFails form_number.block_is

-- "and form 30 on forms 21, 22, 23": the forms of statements that a label may not lead
pub data LabelFails : ℕ → Type 0 where
  on_next : LabelFails form_number.next_statement
  on_exit : LabelFails form_number.exit_statement
  on_null : LabelFails form_number.null_statement

-- Row j of a tree is not supported. "The rest, every attribute name too, counts as supported": no line here asks how an element is spelled,
-- which `text` and its element table tell.
pub data Unsupported (text table : List ℕ) (rows : List Row) : ℕ → Type 0 where
  form : {j : ℕ} (r : Row) → IsRow rows j r → FormFails r.form → Unsupported text table rows j
  labelled : {j : ℕ} (r s : Row) → IsRow rows (suc j) r → r.form ≡ form_number.label → IsRow rows j s → Leads r s → LabelFails s.form → Unsupported text table rows (suc j)

-- "A file passes exactly when no row is not supported. The first such row is named."
pub data Judged (text table : List ℕ) (rows : List Row) : Verdict → Type 0 where
  passes : ((j : ℕ) → Unsupported text table rows j → ⊥) → Judged text table rows Passes
  names : {k : ℕ} → Unsupported text table rows k → ((j : ℕ) → j < k → Unsupported text table rows j → ⊥) → Judged text table rows (NotSupported k)
