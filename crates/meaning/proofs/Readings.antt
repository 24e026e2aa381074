-- The tree of a piece by 01's table is what the rules read of its elements: what an element is to the forms is what the code's table of kinds has.
-- Assumes nothing.
use mathlib.Core.Path.{◌≡◌, refl, sym, ap₂, subst}
use mathlib.Core.Logic.{◌↔◌}
use mathlib.Core.List.{List, [], ◌∷◌}
use Prim.Native.Nat.{ℕ}
use Rattle.forms.specs.code.RuleNames.{constant, subtype}
use Rattle.forms.specs.Tree.{Row}
use Rattle.forms.specs.code.RuleActions.{State, state_rows}
use Rattle.forms.specs.code.ItemReading.{ItemReading}
use Rattle.one_tree.specs.Trees.{IsConstant, IsSubtype, Shallow}
use Rattle.one_tree.proofs.FormElements.{form_kind_lem}
use Rattle.one_tree.proofs.Alone.{constant_alone, subtype_alone}
use Rattle.tree.specs.code.Answers.{terminals_in}
use Rattle.tree.specs.code.PieceRows.{unlike}
use Rattle.meaning.specs.Elements.{Piece}
use Rattle.meaning.specs.Pieces.{kinds_in_piece}
use Rattle.meaning.specs.ItemForms.{to_forms, Tree}

pub to_forms_lem : (p : Piece) → to_forms p ≡ terminals_in (kinds_in_piece p)
unfolding kinds_in_piece
to_forms_lem [] = refl
to_forms_lem (x ∷ p) = ap₂ (λ (k : ℕ) (l : List ℕ). k ∷ l) (form_kind_lem x.kind) (to_forms_lem p)

module _ (p : Piece) (l : List Row) where
  pub constant_reading : Tree IsConstant p l ↔ ((s : State) × (ItemReading constant unlike (terminals_in (kinds_in_piece p)) s × (state_rows s ≡ l)))
  constant_reading = (
    (λ t. (constant_alone unlike (terminals_in (kinds_in_piece p)) l).0 (subst (λ (w : List ℕ). IsConstant w l × Shallow 0 w) (to_forms_lem p) t)),
    λ r. subst (λ (w : List ℕ). IsConstant w l × Shallow 0 w) (sym (to_forms_lem p)) ((constant_alone unlike (terminals_in (kinds_in_piece p)) l).1 r),
  )

  pub subtype_reading : Tree IsSubtype p l ↔ ((s : State) × (ItemReading subtype unlike (terminals_in (kinds_in_piece p)) s × (state_rows s ≡ l)))
  subtype_reading = (
    (λ t. (subtype_alone unlike (terminals_in (kinds_in_piece p)) l).0 (subst (λ (w : List ℕ). IsSubtype w l × Shallow 0 w) (to_forms_lem p) t)),
    λ r. subst (λ (w : List ℕ). IsSubtype w l × Shallow 0 w) (sym (to_forms_lem p)) ((subtype_alone unlike (terminals_in (kinds_in_piece p)) l).1 r),
  )
