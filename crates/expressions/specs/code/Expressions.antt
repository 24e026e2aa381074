-- What an expression comes to, by its rows: parent first, children in text order. A row's left operand is the next row, its right operand the
-- row after the left one's subtree. Assumes nothing.
use Rattle.std.specs.Prelude.{ℕ, zero, suc, cond, List, [], ◌∷◌, eqb, length}
use Rattle.form_numbers.specs.Forms as form
use Rattle.forms.specs.Tree.{Row}
use Rattle.folding.specs.code.Outcomes.{combined_of, signed_of}
use Rattle.folding.specs.declared.Outcome.{Outcome}
use Rattle.operands.specs.code.Leaves.{wrong_leaf}
use Rattle.operands.specs.SpelledOperators.{operator_of, sign_of}
use Rattle.states.specs.States as state
use Rattle.forms.specs.Tree.{behind}

-- by what the names and literals come to and which kinds the elements have, each by its element's number in the piece
module _ (name literal : ℕ → Outcome) (kind : ℕ → ℕ) where
  -- names and literals, then operators; 3, "form 25 or 26"
  unfoldable pub row_outcome : Row → Outcome → Outcome → Outcome
  row_outcome r x y =
      cond (eqb r.form form.name) (name r.first)
      (cond (eqb r.form form.literal) (literal r.first)
      (cond (eqb r.form form.unary) (signed_of (sign_of (kind r.operator)) x)
      (cond (eqb r.form form.binary) (combined_of (operator_of (kind r.operator)) x y) (wrong_leaf state.unfolded))))

  -- the expression whose rows come first, of at most f rows
  unfoldable pub outcome_in : ℕ → List Row → Outcome
  outcome_in zero rs = wrong_leaf state.unfolded
  outcome_in (suc f) [] = wrong_leaf state.unfolded
  outcome_in (suc f) (r ∷ rs) = row_outcome r (outcome_in f rs) (outcome_in f (behind rs))

  abbrev pub outcome_of : List Row → Outcome
  outcome_of rs = outcome_in (length rs) rs
