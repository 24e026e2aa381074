-- An expression's outcome: as many rows as there are suffice, one row is taken at a time, and only what its names, literals and kinds come to
-- counts. Assumes nothing.
use mathlib.Core.Path.{◌≡◌, refl, ap, ap₂, ◌∙◌}
use mathlib.Core.List.{List, [], ◌∷◌}
use Prim.Native.Nat.{ℕ, zero, suc, ◌≤◌}
use native.Mathlib.Omega.{arith}
use lib.ListN.{length, length-drop}
use Rattle.forms.specs.Tree.{Row}
use Rattle.folding.specs.declared.Outcome.{Outcome}
use Rattle.operands.specs.code.Leaves.{wrong_leaf}
use Rattle.states.specs.States as state
use Rattle.forms.specs.Tree.{behind}
use Rattle.expressions.specs.code.Expressions.{row_outcome, outcome_in, outcome_of}

behind_less : (rs : List Row) → length (behind rs) ≤ length rs
behind_less [] = omega arith
behind_less (r ∷ rs) = omega (arith, length-drop r.rows (r ∷ rs))

module _ (name literal : ℕ → Outcome) (kind : ℕ → ℕ) where
  abbrev out : ℕ → List Row → Outcome
  out = outcome_in name literal kind

  enough : (f g : ℕ) (rs : List Row) → length rs ≤ f → length rs ≤ g → out f rs ≡ out g rs
  unfolding outcome_in
  enough zero zero rs h k = refl
  enough zero (suc g) [] h k = refl
  enough zero (suc g) (r ∷ rs) h k = absurd (omega arith)
  enough (suc f) zero [] h k = refl
  enough (suc f) zero (r ∷ rs) h k = absurd (omega arith)
  enough (suc f) (suc g) [] h k = refl
  enough (suc f) (suc g) (r ∷ rs) h k =
      ap₂ (row_outcome name literal kind r) (enough f g rs (omega arith) (omega arith))
      (enough f g (behind rs) (omega (arith, behind_less rs)) (omega (arith, behind_less rs)))

  -- one row more
  pub outcome_row : (r : Row) (rs : List Row) → outcome_of name literal kind (r ∷ rs) ≡ row_outcome name literal kind r (outcome_of name literal kind rs) (outcome_of name literal kind (behind rs))
  unfolding outcome_in
  outcome_row r rs = ap (row_outcome name literal kind r (out (length rs) rs)) (enough (length rs) (length (behind rs)) (behind rs) (behind_less rs) (omega arith))

  pub outcome_none : wrong_leaf state.unfolded ≡ outcome_of name literal kind []
  unfolding outcome_in
  outcome_none = refl

-- what names, literals and kinds come to is all that counts
module _ (name literal name' literal' : ℕ → Outcome) (kind kind' : ℕ → ℕ) (p : (i : ℕ) → name i ≡ name' i) (q : (i : ℕ) → literal i ≡ literal' i) (k : (i : ℕ) → kind i ≡ kind' i) where
  row_same : (r : Row) (x y : Outcome) → row_outcome name literal kind r x y ≡ row_outcome name' literal' kind' r x y
  unfolding row_outcome
  row_same r x y = rw (p r.first, q r.first, k r.operator)

  outcome_same_in : (f : ℕ) (rs : List Row) → outcome_in name literal kind f rs ≡ outcome_in name' literal' kind' f rs
  unfolding outcome_in
  outcome_same_in zero rs = refl
  outcome_same_in (suc f) [] = refl
  outcome_same_in (suc f) (r ∷ rs) =
      row_same r (outcome_in name literal kind f rs) (outcome_in name literal kind f (behind rs))
      ∙ ap₂ (row_outcome name' literal' kind' r) (outcome_same_in f rs) (outcome_same_in f (behind rs))

  pub outcome_same : (rs : List Row) → outcome_of name literal kind rs ≡ outcome_of name' literal' kind' rs
  outcome_same rs = outcome_same_in (length rs) rs
