-- What the verdict promises, as statements: proofs/Promises.antt proves them. Assumes nothing: these are definitions.
use Rattle.std.specs.Prelude.{ℕ, ◌/◌, min, ◌↔◌, ◌≡◌, List, length}
use Rattle.forms.specs.Tree.{Row}
use Rattle.forms.specs.RowWords.{row_numbers, tree_rows_in}
use Rattle.forms.specs.Labels.{LabelsLead}
use Rattle.verdict.specs.Verdict.{Judged}
use Rattle.verdict.specs.code.Judging.{verdict_of}
use Rattle.verdict.specs.declared.Verdict.{Verdict}

-- the first n rows of a tree table, as far as it has them
abbrev pub rows_had : List ℕ → ℕ → List Row
rows_had words n = tree_rows_in (min n (length words / row_numbers)) words

-- What `judge` answers is the verdict on the rows of the table, and no other is: where each label leads the row right before it, as in every
-- file's tree.
abbrev pub JudgedExactly : Type 0
JudgedExactly =
    (text table words : List ℕ) (n : ℕ) (v : Verdict) → LabelsLead (rows_had words n) → (verdict_of words n ≡ v) ↔ Judged text table (rows_had words n) v

-- There is one verdict on the rows of a tree.
abbrev pub OneVerdict : Type 0
OneVerdict = (text table : List ℕ) (rows : List Row) (v v' : Verdict) → Judged text table rows v → Judged text table rows v' → v ≡ v'
