-- The turns of the walk from the last row to the first, in the code's terms: each premise is what a call or a test gives. Assumes nothing.
use mathlib.Core.Path.{◌≡◌, refl, sym, ap, ap₂, ◌∙◌}
use mathlib.Core.Bool.{Bool, true, false}
use mathlib.Core.List.{List, []}
use Prim.Native.Nat.{ℕ, suc, ◌+◌, ◌/◌, ◌≤◌, ◌<◌, min}
use native.Mathlib.Omega.{arith}
use native.Mathlib.Numerals.{add-one}
use borrow.Author.Tests.{ne_eqb, eqb-true, eqb-false, ltb-true, ltb-false}
use lib.Dec.{eqb, ltb}
use lib.ListN.{length, get_or, drop, set, drop_of_length-le}
use lib.Seq.{drop-drop, get_or-set_same, get_or-set_other}
use Rattle.std.proofs.lemmas.List.{get_or_past}
use Rattle.places.specs.Places.{cell_at}
use Rattle.folding.specs.declared.Sign.{Sign}
use Rattle.folding.specs.declared.Operator.{Operator}
use Rattle.folding.specs.declared.Outcome.{Outcome}
use Rattle.folding.specs.code.Outcomes.{combined_of, signed_of}
use Rattle.operands.specs.code.Leaves.{wrong_leaf}
use Rattle.operands.specs.SpelledOperators.{operator_of, sign_of}
use Rattle.operands.specs.code.Operands.{literal_in}
use Rattle.marks.specs.code.Marks.{operand_of}
use Rattle.values.specs.declared.Value.{Value}
use Rattle.uses.specs.code.Uses.{use_in}
use Rattle.states.specs.States as state
use Rattle.places.specs.Sizes.{most_elements}
use Rattle.form_numbers.specs.Forms as forms
use Rattle.forms.specs.Tree.{behind}
use Rattle.expressions.specs.code.Expressions.{row_outcome}
use Rattle.forms.specs.RowWords.{row_at, row_numbers, tree_rows_in}
use Rattle.expressions.specs.Folds.{element_in, name_value, name_in, literal_at, kind_in_piece, expression_in, folded_row, right_of, fold_of}
use Rattle.expressions.proofs.Expressions.{outcome_row, outcome_none}
use Rattle.expressions.proofs.Rows.{rows_length, rows_from_lem}

module _ (text table items links : List ℕ) (i j e : ℕ) (p : e ≡ element_in table items i j) where
  pub value_there : (v : Value) → v ≡ use_in text table items links i e → v ≡ name_value text table items links i j
  unfolding name_value
  value_there v h = rw (← p) h

  pub literal_there : (r : Outcome) → r ≡ literal_in text table e → r ≡ literal_at text table items i j
  unfolding literal_at
  literal_there r z = rw (← p) z

  pub kind_there : (k : ℕ) → k ≡ cell_at table e 0 → k ≡ kind_in_piece table items i j
  unfolding kind_in_piece
  kind_there k h = rw (← p) h

pub name_there : (text table items links : List ℕ) (i j : ℕ) (v : Value) (r : Outcome) → v ≡ name_value text table items links i j → r ≡ operand_of v → r ≡ name_in text table items links i j
unfolding name_in
name_there text table items links i j v r h z = rw (← h) z

-- a row by its form
module _ (text table items links rows : List ℕ) (i k : ℕ) (x y r : Outcome) where
  abbrev Row' : Outcome
  Row' = folded_row text table items links i (row_at rows k) x y

  module _ (form : ℕ) (f : form ≡ (row_at rows k).form) where
    pub is_name : (j : ℕ) → form ≡ forms.name → j ≡ (row_at rows k).first → r ≡ name_in text table items links i j → r ≡ Row'
    unfolding row_outcome
    is_name j h g z = rw (← f, h, ← g) z

    pub is_literal : (j : ℕ) → form ≡ forms.literal → j ≡ (row_at rows k).first → r ≡ literal_at text table items i j → r ≡ Row'
    unfolding row_outcome
    is_literal j h g z = rw (← f, h, ← g) z

    pub is_sign : (j kind : ℕ) (o : Sign) → form ≡ forms.unary → j ≡ (row_at rows k).operator → kind ≡ kind_in_piece table items i j → o ≡ sign_of kind → r ≡ signed_of o x → r ≡ Row'
    unfolding row_outcome
    is_sign j kind o h g m q z = rw (← f, h, ← g, ← m, ← q) z

    pub is_operator : (j kind : ℕ) (o : Operator) → form ≡ forms.binary → j ≡ (row_at rows k).operator → kind ≡ kind_in_piece table items i j → o ≡ operator_of kind → r ≡ combined_of o x y → r ≡ Row'
    unfolding row_outcome
    is_operator j kind o h g m q z = rw (← f, h, ← g, ← m, ← q) z

    pub is_other : (form ≡ forms.name → ⊥) → (form ≡ forms.literal → ⊥) → (form ≡ forms.unary → ⊥) → (form ≡ forms.binary → ⊥) → r ≡ wrong_leaf state.unfolded → r ≡ Row'
    unfolding row_outcome
    is_other a b c d z = rw (← f, ne_eqb form forms.name a, ne_eqb form forms.literal b, ne_eqb form forms.unary c, ne_eqb form forms.binary d) z

module _ (text table items links : List ℕ) (i n : ℕ) (rows : List ℕ) where
  -- the expression from row j on
  abbrev from : ℕ → Outcome
  from j = expression_in text table items links i (drop j (tree_rows_in n rows))

  -- a row past the last has no operand
  past_last : (j : ℕ) → n ≤ j → wrong_leaf state.unfolded ≡ from j
  past_last j h =
      outcome_none (name_in text table items links i) (literal_at text table items i) (kind_in_piece table items i)
      ∙ ap (expression_in text table items links i) (sym (drop_of_length-le (tree_rows_in n rows) {i = j} (rw (rows_length n rows) h)))

  -- from row k on each outcome is done
  abbrev pub Done : List Outcome → ℕ → Type 0
  Done outs k = (j : ℕ) → k ≤ j → get_or outs j (wrong_leaf state.unfolded) ≡ from j

  pub done_start : (outs : List Outcome) → length outs ≡ n → Done outs n
  done_start outs e j h = get_or_past outs j (wrong_leaf state.unfolded) (omega arith) ∙ past_last j h

  behind_right : (k : ℕ) → k < n → behind (drop (suc k) (tree_rows_in n rows)) ≡ drop (right_of rows n k) (tree_rows_in n rows)
  unfolding right_of
  behind_right k h = go (ltb (suc k) n) refl
    where
      nothing_left : (m : ℕ) → n ≤ m → drop m (tree_rows_in n rows) ≡ []
      nothing_left m l = drop_of_length-le (tree_rows_in n rows) {i = m} (rw (rows_length n rows) l)

      size : ℕ
      size = (row_at rows (k + 1)).rows

      cut : (b : Bool) → ltb (suc k + size) n ≡ b → drop (suc k + size) (tree_rows_in n rows) ≡ drop (min n (k + 1 + size)) (tree_rows_in n rows)
      cut true e =
          let l = ltb-true (suc k + size) n e in
          let w : suc k + size ≡ min n (k + 1 + size) = omega arith in
          ap (λ (m : ℕ). drop m (tree_rows_in n rows)) w
      cut false e =
          let l = ltb-false (suc k + size) n e in
          nothing_left (suc k + size) l ∙ sym (nothing_left (min n (k + 1 + size)) (omega arith))

      go : (b : Bool) → ltb (suc k) n ≡ b → behind (drop (suc k) (tree_rows_in n rows)) ≡ drop (min n (k + 1 + size)) (tree_rows_in n rows)
      go true e =
          let z : suc k ≡ k + 1 = omega arith in
          ap behind (rows_from_lem n (suc k) rows (ltb-true (suc k) n e))
          ∙ ap (drop (row_at rows (suc k)).rows) (sym (rows_from_lem n (suc k) rows (ltb-true (suc k) n e)))
          ∙ drop-drop (row_at rows (suc k)).rows (suc k) (tree_rows_in n rows)
          ∙ ap (λ (m : ℕ). drop (suc k + (row_at rows m).rows) (tree_rows_in n rows)) z
          ∙ cut (ltb (suc k + size) n) refl
      go false e =
          let l = ltb-false (suc k) n e in
          ap behind (nothing_left (suc k) l) ∙ sym (nothing_left (min n (k + 1 + size)) (omega arith))

  -- one row, those behind it being done
  module _ (outs : List Outcome) (c k : ℕ) (x y o : Outcome) (m : c ≡ k + 1) (s : Done outs c) (g : length outs ≡ n) (l : k < n)
      (p : x ≡ get_or outs (k + 1) (wrong_leaf state.unfolded)) (right : ℕ) (t : right ≡ right_of rows n k) (q : y ≡ get_or outs right (wrong_leaf state.unfolded))
      (z : o ≡ folded_row text table items links i (row_at rows k) x y) where
    here : o ≡ from k
    unfolding right_of
    here =
        z
        ∙ ap₂ (folded_row text table items links i (row_at rows k)) left_is right_is
        ∙ sym (ap (expression_in text table items links i) (rows_from_lem n k rows l) ∙ outcome_row (name_in text table items links i) (literal_at text table items i) (kind_in_piece table items i) (row_at rows k) (drop (suc k) (tree_rows_in n rows)))
      where
        left_is : x ≡ from (suc k)
        left_is = p ∙ s (k + 1) (omega arith) ∙ ap from (add-one k)

        right_is : y ≡ expression_in text table items links i (behind (drop (suc k) (tree_rows_in n rows)))
        right_is =
            q
            ∙ s right (below (min n (k + 1 + (row_at rows (k + 1)).rows)) refl)
            ∙ ap from t
            ∙ ap (expression_in text table items links i) (sym (behind_right k l))
          where
            below : (v : ℕ) → v ≡ min n (k + 1 + (row_at rows (k + 1)).rows) → c ≤ right
            below v g = omega (arith, t, g)

    pub done_turn : Done (set outs k o) k
    done_turn j d = go (eqb j k) refl
      where
        go : (b : Bool) → eqb j k ≡ b → get_or (set outs k o) j (wrong_leaf state.unfolded) ≡ from j
        go true w = let u : j ≡ k = eqb-true j k w in rw u (get_or-set_same outs k o (wrong_leaf state.unfolded) (omega arith) ∙ here)
        go false w = let u = eqb-false j k w in get_or-set_other outs k j o (wrong_leaf state.unfolded) u ∙ s j (omega (arith, u))

pub folded_whole : (text table items links : List ℕ) (i n : ℕ) (rows : List ℕ) (r : Outcome) → n ≡ min (length rows / row_numbers) most_elements → r ≡ expression_in text table items links i (tree_rows_in n rows)
    → r ≡ fold_of text table items links i rows
unfolding fold_of
folded_whole text table items links i n rows r h z = rw (← h) z
