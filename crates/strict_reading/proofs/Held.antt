-- What the two lent tables hold: the element table the text's elements, so that what the forms ask of it is asked of the text; the tree table
-- a file's rows, so that the verdict on it is that on them. Assumes nothing.
use Prim.Native.Nat.{ℕ, zero, suc, ◌+◌, ◌-◌, ◌*◌, ◌/◌, ◌≤◌, min}
use mathlib.Core.Path.{◌≡◌, refl, sym, ap, ◌∙◌, subst, subst₂, fun_ext}
use mathlib.Core.Logic.{◌↔◌}
use mathlib.Core.Bool.{Bool, true, false}
use mathlib.Core.List.{List, [], ◌∷◌, ◌++◌}
use native.Mathlib.Omega.{arith}
use borrow.Author.Tests.{ltb-false}
use lib.Dec.{ltb}
use lib.ListN.{length, get_or, replicate, length-append, length-replicate, get_or-eq_default}
use Rattle.elements.specs.Kinds.{kind_number}
use Rattle.element_reading.specs.Rows.{ElementRow, rows_of}
use Rattle.element_reading.specs.Table.{cells}
use Rattle.element_reading.specs.Reading.{table_of}
use Rattle.element_reading.proofs.Answers.{table_read}
use Rattle.element_reading.proofs.TableLaws.{length_cells}
use Rattle.same_names.specs.Alike.{spelled_same, same_name}
use Rattle.places.specs.Places.{cell_at, kinds_of}
use Rattle.forms.specs.code.Kinds.{terminal_of}
use Rattle.forms.specs.Tree as forms
use Rattle.one_tree.proofs.FormElements.{form_kind_lem}
use Rattle.tree.specs.code.Answers.{terminals_of}
use Rattle.forms.specs.RowWords.{words_of}
use Rattle.forms.specs.RowWords.{tree_rows_in}
use Rattle.forms.specs.Labels.{LabelsLead}
use Rattle.verdict.specs.Verdict.{Judged}
use Rattle.verdict.specs.code.Judging.{verdict_of}
use Rattle.verdict.specs.code.Promises.{rows_had}
use Rattle.verdict.specs.declared.Verdict.{Verdict}
use Rattle.verdict.proofs.Promises.{judged_exactly}
use Rattle.element_reading.specs.Given.{element_count, Taken}
use Rattle.strict_reading.specs.Given.{form_kinds, Elements, same_name_in}
use Rattle.element_reading.proofs.Answers.{taken_read}
use Rattle.laws.proofs.Laws.{zeros_at}
use Rattle.forms.proofs.RowWords.{words_size}

-- zeros after rows change none of the words
padded_at : (l : List ℕ) (z k : ℕ) → get_or (l ++ replicate z 0) k 0 ≡ get_or l k 0
padded_at [] z k = zeros_at z k
padded_at (x ∷ l) z zero = refl
padded_at (x ∷ l) z (suc k) = padded_at l z k

-- a word of a table that has the words of l, which are whole rows, and then perhaps zeros
cell_as : (l t : List ℕ) (m i j : ℕ) → length l ≡ 3 * m → 3 * m ≤ length t → ((k : ℕ) → get_or t k 0 ≡ get_or l k 0) → cell_at t i j ≡ get_or l (3 * i + j) 0
unfolding cell_at
cell_as l t m i j e h g = go (ltb i (length t / 3)) refl
  where
    go : (b : Bool) → ltb i (length t / 3) ≡ b → cell_at t i j ≡ get_or l (3 * i + j) 0
    go true q = rw q (g (3 * i + j))
    go false q = let x = ltb-false i (length t / 3) q in rw q (sym (get_or-eq_default l 0 (omega arith)))

module _ (text l : List ℕ) (m z : ℕ) (e : length l ≡ 3 * m) where
  cell_padded : (i j : ℕ) → cell_at (l ++ replicate z 0) i j ≡ cell_at l i j
  cell_padded i j =
      let a = length-append l (replicate {A = ℕ} z 0) in
      cell_as l (l ++ replicate z 0) m i j e (omega arith) (padded_at l z) ∙ sym (cell_as l l m i j e (omega arith) (λ k. refl))

  same_padded : (a b : ℕ) → same_name text (l ++ replicate z 0) a b ≡ same_name text l a b
  unfolding same_name spelled_same
  same_padded a b = rw (cell_padded a 0, cell_padded b 0, cell_padded a 1, cell_padded b 1, cell_padded a 2, cell_padded b 2)

terminals_rows : (rs : List ElementRow) (l : List ℕ) → terminals_of (length rs) (cells rs ++ l) ≡ form_kinds rs
unfolding terminals_of kinds_of cells
terminals_rows [] l = refl
terminals_rows (r ∷ rs) l =
    ap (λ (x : List ℕ). terminal_of (kind_number r.kind) ∷ x) (terminals_rows rs l)
    ∙ ap (λ (k : ℕ). k ∷ form_kinds rs) (sym (form_kind_lem (kind_number r.kind)))

-- the element table has the text's elements: what they are to the forms, and which are alike
module _ (text : List ℕ) (ew : ℕ) (t : Taken text ew) where
  table_elements : terminals_of (element_count text) (table_of text ew) ≡ Elements text
  table_elements = rw (table_read text ew (taken_read text ew t)) (terminals_rows (rows_of text) (replicate (ew - 3 * element_count text) 0))

  table_alike : same_name text (table_of text ew) ≡ same_name_in text
  table_alike =
      rw (table_read text ew (taken_read text ew t))
      (fun_ext (λ a. fun_ext (same_padded text (cells (rows_of text)) (element_count text) (ew - 3 * element_count text) (length_cells (rows_of text)) a)))

  -- so that what holds of one holds of the other
  pub of_text : (P : (ℕ → ℕ → Bool) → List ℕ → Type 0) → P (same_name text (table_of text ew)) (terminals_of (element_count text) (table_of text ew)) → P (same_name_in text) (Elements text)
  of_text P x = subst₂ P table_alike table_elements x

  pub of_table : (P : (ℕ → ℕ → Bool) → List ℕ → Type 0) → P (same_name_in text) (Elements text) → P (same_name text (table_of text ew)) (terminals_of (element_count text) (table_of text ew))
  of_table P x = subst₂ P (sym table_alike) (sym table_elements) x

-- the rows of a tree table that has these rows and then other words
pub rows_in_lem : (rs : List forms.Row) (l : List ℕ) → tree_rows_in (length rs) (words_of rs ++ l) ≡ rs
unfolding tree_rows_in
rows_in_lem [] l = refl
rows_in_lem (r ∷ rs) l = ap (λ (x : List forms.Row). r ∷ x) (rows_in_lem rs l)

-- the verdict on a tree table that has these rows and then zeros is that on them
module _ (text table : List ℕ) (rs : List forms.Row) (room : ℕ) (h : LabelsLead rs) (l : 5 * length rs ≤ room) (v : Verdict) where
  words : List ℕ
  words = words_of rs ++ replicate (room - 5 * length rs) 0

  had : rows_had words (length rs) ≡ rs
  unfolding words
  had =
      let a = length-append (words_of rs) (replicate {A = ℕ} (room - 5 * length rs) 0) in
      let b = length-replicate {A = ℕ} (room - 5 * length rs) 0 in
      let w = words_size rs in
      let z : min (length rs) (length (words_of rs ++ replicate {A = ℕ} (room - 5 * length rs) 0) / 5) ≡ length rs = omega arith in
      ap (λ (n : ℕ). tree_rows_in n (words_of rs ++ replicate (room - 5 * length rs) 0)) z ∙ rows_in_lem rs (replicate (room - 5 * length rs) 0)

  pub verdict_rows : (verdict_of (words_of rs ++ replicate (room - 5 * length rs) 0) (length rs) ≡ v) ↔ Judged text table rs v
  unfolding words
  verdict_rows =
      subst (λ (x : List forms.Row). (verdict_of (words_of rs ++ replicate (room - 5 * length rs) 0) (length rs) ≡ v) ↔ Judged text table x v) had
      (judged_exactly text table (words_of rs ++ replicate (room - 5 * length rs) 0) (length rs) v (subst LabelsLead (sym had) h))
