-- The promises on the states of items: a piece has rows exactly when a form fits it, its own and its mark's first, and then it is doubled or
-- in a later state. Assumes nothing.
use Prim.Native.Nat.{ℕ, ◌≤◌}
use mathlib.Core.Path.{◌≡◌, refl, sym, ap, ap₂, subst, ◌∙◌}
use mathlib.Core.Logic.{◌⊎◌, inl, inr}
use mathlib.Core.Bool.{Bool, true, false}
use mathlib.Core.List.{List, [], ◌∷◌}
use native.Mathlib.Omega.{arith}
use borrow.Author.Tests.{eqb-true, eqb-false}
use lib.Dec.{eqb}
use lib.ListN.{get_or}
use Rattle.forms.specs.code.RuleNames.{constant, subtype}
use Rattle.forms.specs.Tree.{Row}
use Rattle.tree.specs.code.PieceRows.{unlike, rows_of_piece}
use Rattle.tree.proofs.ItemRows.{Rows, constant_rows, subtype_rows, other_rows}
use Rattle.values.specs.ValueWords.{state_of}
use Rattle.values.specs.declared.Value.{Value}
use Rattle.values.specs.declared.Value.TheVariants.{Number, Truth, Range, Truths, Without}
use Rattle.meaning.specs.Elements.{Piece, at}
use Rattle.meaning.specs.Pieces.{kinds_in_piece, class_of}
use Rattle.meaning.specs.Names.{own_doubled, Done, use_of}
use Rattle.meaning.specs.ItemForms.{ItemForm, HasForm, is_constant, is_subtype, is_ranged}
use Rattle.meaning.specs.code.PieceValues.{formed, unless_doubled, value_of}
use Rattle.meaning.specs.FittingPieces.{FitsAForm}
use Rattle.meaning.specs.code.Promises.{BrokenExactly, DoubledExactly, LaterElse, StatesKnown, AllCounted}
use Rattle.marks.proofs.Sound.{Between}
use Rattle.meaning.proofs.States.{Late, marked_late}
use Rattle.meaning.proofs.Counted.{all_counted_by}
use Rattle.meaning.proofs.Readings.{constant_reading, subtype_reading}
use Rattle.meaning.proofs.Begins.{constant_tree_begins, subtype_tree_begins}
use Rattle.meaning.proofs.Shaped.{constant_form, subtype_form}

-- ---- the rows of a piece

pub first_kind : (p : Piece) → get_or (kinds_in_piece p) 0 0 ≡ (at p 0).kind
unfolding kinds_in_piece at
first_kind [] = refl
first_kind (x ∷ p) = refl

-- at least two rows
abbrev pub HasRows : Piece → Type 0
HasRows p = (item : Row) × ((mark : Row) × ((m : List Row) × (rows_of_piece (kinds_in_piece p) ≡ item ∷ (mark ∷ m))))

-- no form fits and there are no rows, or one fits and there are
abbrev pub Ways : Piece → Type 0
Ways p = ((rows_of_piece (kinds_in_piece p) ≡ []) × (FitsAForm p → ⊥)) ⊎ (FitsAForm p × HasRows p)

pub form_class_lem : (p : Piece) (i : ItemForm) → HasForm p i → (((at p 0).kind ≡ 53) × (class_of p ≡ 3)) ⊎ (((at p 0).kind ≡ 129) × (class_of p ≡ 4))
form_class_lem p i (is_constant t x) = let b = constant_tree_begins p _ t in inl (b.first, b.classed)
form_class_lem p i (is_subtype t) = let b = subtype_tree_begins p _ t in inr (b.first, b.classed)
form_class_lem p i (is_ranged t g x y) = let b = subtype_tree_begins p _ t in inr (b.first, b.classed)

module _ (p : Piece) where
  constant_ways : get_or (kinds_in_piece p) 0 0 ≡ 53 → Rows constant 4 (kinds_in_piece p) → Ways p
  constant_ways e (inl h) = inl (h.0, λ f. none f.0 f.1)
    where
      none : (i : ItemForm) → HasForm p i → ⊥
      none i (is_constant t x) = let r = (constant_reading p _).0 t in h.1 unlike r.0 r.1.0
      none i (is_subtype t) = absurd (omega (arith, e, first_kind p, (subtype_tree_begins p _ t).first))
      none i (is_ranged t g x y) = absurd (omega (arith, e, first_kind p, (subtype_tree_begins p _ t).first))
  constant_ways e (inr (m, (q, (s, (r, t))))) = inr (constant_form p s r, (_, (_, (m, q))))

  subtype_ways : get_or (kinds_in_piece p) 0 0 ≡ 129 → Rows subtype 5 (kinds_in_piece p) → Ways p
  subtype_ways e (inl h) = inl (h.0, λ f. none f.0 f.1)
    where
      none : (i : ItemForm) → HasForm p i → ⊥
      none i (is_constant t x) = absurd (omega (arith, e, first_kind p, (constant_tree_begins p _ t).first))
      none i (is_subtype t) = let r = (subtype_reading p _).0 t in h.1 unlike r.0 r.1.0
      none i (is_ranged t g x y) = let r = (subtype_reading p _).0 t in h.1 unlike r.0 r.1.0
  subtype_ways e (inr (m, (q, (s, (r, t))))) = inr (subtype_form p s r, (_, (_, (m, q))))

  pub ways : Ways p
  ways = go (eqb (get_or (kinds_in_piece p) 0 0) 53) (eqb (get_or (kinds_in_piece p) 0 0) 129) refl refl
    where
      go : (a b : Bool) → eqb (get_or (kinds_in_piece p) 0 0) 53 ≡ a → eqb (get_or (kinds_in_piece p) 0 0) 129 ≡ b → Ways p
      go true b x y = let e = eqb-true (get_or (kinds_in_piece p) 0 0) 53 x in constant_ways e (constant_rows (kinds_in_piece p) e)
      go false true x y = let e = eqb-true (get_or (kinds_in_piece p) 0 0) 129 y in subtype_ways e (subtype_rows (kinds_in_piece p) e)
      go false false x y =
          inl (other_rows (kinds_in_piece p) (eqb-false (get_or (kinds_in_piece p) 0 0) 53 x) (eqb-false (get_or (kinds_in_piece p) 0 0) 129 y), λ f. none (form_class_lem p f.0 f.1))
        where
          none : (((at p 0).kind ≡ 53) × (class_of p ≡ 3)) ⊎ (((at p 0).kind ≡ 129) × (class_of p ≡ 4)) → ⊥
          none (inl f) = eqb-false (get_or (kinds_in_piece p) 0 0) 53 x (first_kind p ∙ f.0)
          none (inr f) = eqb-false (get_or (kinds_in_piece p) 0 0) 129 y (first_kind p ∙ f.0)

-- ---- what a piece comes to

-- a piece is in one state
same_state : (v : Value) (s t : ℕ) → v ≡ Without s → v ≡ Without t → s ≡ t
same_state v s t e f = ap state_of (sym e ∙ f)

module _ (all : List Piece) (above : List Done) (p : Piece) where
  pub broken_value : rows_of_piece (kinds_in_piece p) ≡ [] → value_of all above p ≡ Without 1
  unfolding value_of
  broken_value e = ap (λ (rs : List Row). unless_doubled (own_doubled all p) rs (formed p (use_of all above) rs)) e

  pub doubled_value : HasRows p → own_doubled all p ≡ true → value_of all above p ≡ Without 2
  unfolding value_of
  doubled_value (item, (mark, (m, e))) d = ap₂ (λ (b : Bool) (rs : List Row). unless_doubled b rs (formed p (use_of all above) rs)) d e

  later_value : HasRows p → own_doubled all p ≡ false → Late (value_of all above p)
  unfolding value_of
  later_value (item, (mark, (m, e))) d =
      subst Late (sym (ap₂ (λ (b : Bool) (rs : List Row). unless_doubled b rs (formed p (use_of all above) rs)) d e)) (marked_late all above p (at p mark.first) m)

  later_state : (s : ℕ) → HasRows p → own_doubled all p ≡ false → value_of all above p ≡ Without s → Between 10 s
  later_state s h d e = subst Late e (later_value h d)

  broken_both : Ways p → ((value_of all above p ≡ Without 1) → FitsAForm p → ⊥) × ((FitsAForm p → ⊥) → value_of all above p ≡ Without 1)
  broken_both (inl h) = (λ e. h.1, λ n. broken_value h.0)
  broken_both (inr (f, h)) = (λ e g. go (own_doubled all p) refl e, λ n. absurd (n f))
    where
      go : (b : Bool) → own_doubled all p ≡ b → value_of all above p ≡ Without 1 → ⊥
      go true d e = let z = same_state (value_of all above p) 1 2 e (doubled_value h d) in omega arith
      go false d e = let z = (later_state 1 h d e).0 in omega arith

  doubled_both : Ways p → (value_of all above p ≡ Without 2 → FitsAForm p × (own_doubled all p ≡ true)) × (FitsAForm p × (own_doubled all p ≡ true) → value_of all above p ≡ Without 2)
  doubled_both (inl h) = (there, λ g. absurd (h.1 g.0))
    where
      there : value_of all above p ≡ Without 2 → FitsAForm p × (own_doubled all p ≡ true)
      there e = let z = same_state (value_of all above p) 1 2 (broken_value h.0) e in absurd (omega arith)
  doubled_both (inr (f, h)) = (λ e. (f, go (own_doubled all p) refl e), λ g. doubled_value h g.1)
    where
      go : (b : Bool) → own_doubled all p ≡ b → value_of all above p ≡ Without 2 → b ≡ true
      go true d e = refl
      go false d e = let z = (later_state 2 h d e).0 in absurd (omega arith)

  later_by : (s : ℕ) → Ways p → FitsAForm p → own_doubled all p ≡ false → value_of all above p ≡ Without s → Between 10 s
  later_by s (inl h) f d e = absurd (h.1 f)
  later_by s (inr (g, h)) f d e = later_state s h d e

  known_by : (s : ℕ) → Ways p → value_of all above p ≡ Without s → (1 ≤ s) × (s ≤ 10)
  known_by s (inl h) e = let z = same_state (value_of all above p) 1 s (broken_value h.0) e in (omega arith, omega arith)
  known_by s (inr (f, h)) e = go (own_doubled all p) refl
    where
      go : (b : Bool) → own_doubled all p ≡ b → (1 ≤ s) × (s ≤ 10)
      go true d = let z = same_state (value_of all above p) 2 s (doubled_value h d) e in (omega arith, omega arith)
      go false d = let l = later_state s h d e in let a = l.0 in (omega arith, l.1)

  pub state_known : (v : Value) → value_of all above p ≡ v → state_of v ≤ 10
  state_known (Number z) e = omega arith
  state_known (Truth t) e = omega arith
  state_known (Range low high) e = omega arith
  state_known Truths e = omega arith
  state_known (Without s) e = (known_by s (ways p) e).1

-- ---- the promises

pub broken_exactly : BrokenExactly
broken_exactly all above p = broken_both all above p (ways p)

pub doubled_exactly : DoubledExactly
doubled_exactly all above p = doubled_both all above p (ways p)

pub later_else : LaterElse
later_else all above p s = later_by all above p s (ways p)

pub states_known : StatesKnown
states_known all above p s = known_by all above p s (ways p)

pub all_counted : AllCounted
all_counted = all_counted_by (λ all above p. state_known all above p (value_of all above p) refl)
