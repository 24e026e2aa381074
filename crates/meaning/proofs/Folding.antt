-- What an expression folds to: the code's fold is what the definitions give, wherever they give anything, and they do where none of 3 to 6 is met.
-- Assumes nothing.
use Prim.Native.Nat.{ℕ, zero, suc, ◌≤◌}
use mathlib.Core.Path.{◌≡◌, refl, sym, ap, ap₂, subst, ◌∙◌}
use mathlib.Core.Bool.{Bool, true, false}
use mathlib.Core.List.{List, ◌∷◌}
use native.Mathlib.Omega.{arith}
use borrow.Author.Tests.{eqb-true, eqb-false}
use lib.Dec.{eqb}
use lib.ListN.{length}
use Rattle.forms.specs.Tree.{Row}
use Rattle.integers.specs.declared.Folded.{Folded}
use Rattle.integers.specs.declared.Folded.TheVariants.{Whole, Truth, Stopped}
use Rattle.literals.specs.Literals.{literal_of}
use Rattle.folding.specs.Operators.{logic_of, decides}
use Rattle.folding.specs.code.Folding.{binary_of, unary_of}
use Rattle.folding.specs.declared.Logic as L
use Rattle.folding.specs.declared.Operator.{Operator}
use Rattle.folding.specs.declared.Operator.TheVariants.{Arithmetic, Relation, Logic, Join}
use Rattle.folding.specs.declared.Sign.{Sign}
use Rattle.folding.specs.declared.Sign.TheVariants.{Plus, Minus, Absolute, Not}
use Rattle.folding.specs.declared.Sort.{Sort}
use Rattle.folding.specs.declared.Sort.TheVariants as S
use Rattle.operands.specs.SpelledOperators.{operator_of, sign_of}
use Rattle.operands.specs.code.Operands.{literal_by}
use Rattle.marks.specs.code.Marks.{operand_of}
use Rattle.marks.proofs.Sound.{late}
use Rattle.forms.specs.Tree.{behind}
use Rattle.expressions.specs.code.Expressions.{outcome_in}
use Rattle.values.specs.declared.Value.{Value}
use Rattle.values.specs.declared.Value.TheVariants as value
use Rattle.integers.specs.declared.Kind.TheVariants as K
use Rattle.meaning.specs.Elements.{Element, Piece, at}
use Rattle.meaning.specs.ItemForms.{Expression, name, literal, unary, binary, Is, is_name, is_called, is_attribute, is_literal, is_unary, is_binary}
use Rattle.meaning.specs.States as met
use Rattle.meaning.specs.States.{Kind, integer, truth, expression_kind, Meets, NoneMet}
use Rattle.meaning.specs.Values.{skips, Folds, number_used, truth_used, spelled, stops, plus, minus, absolute, opposite, left_stops, skipped, right_stops, right_stops_too, computed, related, truths_related, connected}
use Rattle.meaning.specs.code.PieceValues.{valued}
use Rattle.meaning.proofs.Sound.{SoundUse}
use Rattle.meaning.proofs.Least.{Exact, out, row_name, row_literal, row_unary, row_binary, behind_less, exact_in}
use Rattle.meaning.proofs.Later.{Fit, operand_fit, literal_by_fit, outcome_fit}

module _ (p : Piece) (used : Element → Value) where
  -- ---- a row more

  abbrev less : ℕ → ℕ
  less zero = zero
  less (suc f) = f

  room : (f : ℕ) (rs : List Row) → suc (length rs) ≤ f → (length rs ≤ less f) × (length (behind rs) ≤ less f)
  room zero rs h = absurd (omega arith)
  room (suc f) rs h = (omega arith, omega (arith, behind_less rs))

  at_name : (f : ℕ) (r : Row) (rs : List Row) → suc (length rs) ≤ f → r.form ≡ 24 → (out p used f (r ∷ rs)).folded ≡ (operand_of (used (at p r.first))).folded
  unfolding outcome_in
  at_name zero r rs h e = absurd (omega arith)
  at_name (suc f) r rs h e = rw (row_name p used r (out p used f rs) (out p used f (behind rs)) e)

  at_literal : (f : ℕ) (r : Row) (rs : List Row) → suc (length rs) ≤ f → r.form ≡ 27 → (out p used f (r ∷ rs)).folded ≡ (literal_by (at p r.first).kind (at p r.first).bytes).folded
  unfolding outcome_in
  at_literal zero r rs h e = absurd (omega arith)
  at_literal (suc f) r rs h e = rw (row_literal p used r (out p used f rs) (out p used f (behind rs)) e)

  at_unary : (f : ℕ) (r : Row) (rs : List Row) (o : Sign) → suc (length rs) ≤ f → r.form ≡ 28 → sign_of (at p r.operator).kind ≡ o
      → (out p used f (r ∷ rs)).folded ≡ unary_of o (out p used (less f) rs).folded
  unfolding outcome_in
  at_unary zero r rs o h e q = absurd (omega arith)
  at_unary (suc f) r rs o h e q = rw (row_unary p used r o (out p used f rs) (out p used f (behind rs)) e q)

  at_binary : (f : ℕ) (r : Row) (rs : List Row) (o : Operator) → suc (length rs) ≤ f → r.form ≡ 29 → operator_of (at p r.operator).kind ≡ o
      → (out p used f (r ∷ rs)).folded ≡ binary_of o (out p used (less f) rs).folded (out p used (less f) (behind rs)).folded
  unfolding outcome_in
  at_binary zero r rs o h e q = absurd (omega arith)
  at_binary (suc f) r rs o h e q = rw (row_binary p used r o (out p used f rs) (out p used f (behind rs)) e q)

  literal_folded : (kind : ℕ) (bytes : List ℕ) → kind ≡ 3 → (literal_by kind bytes).folded ≡ literal_of bytes
  unfolding literal_by
  literal_folded kind bytes e = rw e

  -- ---- what is given is what the code folds

  -- an operator on what its operands fold to
  beside : (o : Operator) (f g x y : Folded) → f ≡ x → g ≡ y → binary_of o f g ≡ binary_of o x y
  beside o f g x y a b = ap₂ (λ (u w : Folded). binary_of o u w) a b

  decided : (o : L.Logic) (t : Bool) (y : Folded) → decides o t ≡ true → binary_of (Logic o) (Truth t) y ≡ Truth (logic_of o t t)
  decided o t y e = rw e

  undecided : (o : L.Logic) (t u : Bool) → decides o t ≡ false → binary_of (Logic o) (Truth t) (Truth u) ≡ Truth (logic_of o t u)
  undecided o t u e = rw e

  passed : (o : Operator) (t : Bool) (s : ℕ) → skips o t ≡ false → binary_of o (Truth t) (Stopped s) ≡ Stopped s
  passed (Arithmetic o) t s e = refl
  passed (Relation o) t s e = refl
  passed (Logic o) t s e = rw e
  passed Join t s e = refl

  sound : {x : Expression} {v : Folded} → Folds used x v → (rs : List Row) → Is p rs x → (f : ℕ) → length rs ≤ f → (out p used f rs).folded ≡ v
  sound (number_used q) _ (is_name {r = r} {rs = rs} e) f h = at_name f r rs h e ∙ ap (λ (v : Value). (operand_of v).folded) q
  sound (truth_used q) _ (is_name {r = r} {rs = rs} e) f h = at_name f r rs h e ∙ ap (λ (v : Value). (operand_of v).folded) q
  sound (spelled q) _ (is_literal {r = r} {rs = rs} e) f h = at_literal f r rs h e ∙ literal_folded (at p r.first).kind (at p r.first).bytes q
  sound (stops {o = o} d) _ (is_unary {r = r} {rs = rs} e q i) f h = at_unary f r rs o h e q ∙ ap (unary_of o) (sound d rs i (less f) (room f rs h).0)
  sound (plus d) _ (is_unary {r = r} {rs = rs} e q i) f h = at_unary f r rs Plus h e q ∙ ap (unary_of Plus) (sound d rs i (less f) (room f rs h).0)
  sound (minus d) _ (is_unary {r = r} {rs = rs} e q i) f h = at_unary f r rs Minus h e q ∙ ap (unary_of Minus) (sound d rs i (less f) (room f rs h).0)
  sound (absolute d) _ (is_unary {r = r} {rs = rs} e q i) f h = at_unary f r rs Absolute h e q ∙ ap (unary_of Absolute) (sound d rs i (less f) (room f rs h).0)
  sound (opposite d) _ (is_unary {r = r} {rs = rs} e q i) f h = at_unary f r rs Not h e q ∙ ap (unary_of Not) (sound d rs i (less f) (room f rs h).0)
  sound (left_stops {o = o} d) _ (is_binary {r = r} {rs = rs} e q i j) f h =
      at_binary f r rs o h e q ∙ ap (λ (u : Folded). binary_of o u (out p used (less f) (behind rs)).folded) (sound d rs i (less f) (room f rs h).0)
  sound (skipped {o = o} {t = t} d c) _ (is_binary {r = r} {rs = rs} e q i j) f h =
      at_binary f r rs (Logic o) h e q ∙ ap (λ (u : Folded). binary_of (Logic o) u (out p used (less f) (behind rs)).folded) (sound d rs i (less f) (room f rs h).0)
      ∙ decided o t (out p used (less f) (behind rs)).folded c
  sound (right_stops {o = o} d g) _ (is_binary {r = r} {rs = rs} e q i j) f h =
      at_binary f r rs o h e q ∙ beside o _ _ _ _ (sound d rs i (less f) (room f rs h).0) (sound g (behind rs) j (less f) (room f rs h).1)
  sound (right_stops_too {o = o} {t = t} {s = s} d c g) _ (is_binary {r = r} {rs = rs} e q i j) f h =
      at_binary f r rs o h e q ∙ beside o _ _ _ _ (sound d rs i (less f) (room f rs h).0) (sound g (behind rs) j (less f) (room f rs h).1) ∙ passed o t s c
  sound (computed {o = o} d g) _ (is_binary {r = r} {rs = rs} e q i j) f h =
      at_binary f r rs (Arithmetic o) h e q ∙ beside (Arithmetic o) _ _ _ _ (sound d rs i (less f) (room f rs h).0) (sound g (behind rs) j (less f) (room f rs h).1)
  sound (related {o = o} d g) _ (is_binary {r = r} {rs = rs} e q i j) f h =
      at_binary f r rs (Relation o) h e q ∙ beside (Relation o) _ _ _ _ (sound d rs i (less f) (room f rs h).0) (sound g (behind rs) j (less f) (room f rs h).1)
  sound (truths_related {o = o} d g) _ (is_binary {r = r} {rs = rs} e q i j) f h =
      at_binary f r rs (Relation o) h e q ∙ beside (Relation o) _ _ _ _ (sound d rs i (less f) (room f rs h).0) (sound g (behind rs) j (less f) (room f rs h).1)
  sound (connected {o = o} {t = t} {u = u} d c g) _ (is_binary {r = r} {rs = rs} e q i j) f h =
      at_binary f r rs (Logic o) h e q ∙ beside (Logic o) _ _ _ _ (sound d rs i (less f) (room f rs h).0) (sound g (behind rs) j (less f) (room f rs h).1) ∙ undecided o t u c

  pub folds_sound : (rs : List Row) (x : Expression) (v : Folded) → Is p rs x → Folds used x v → (valued p used rs).folded ≡ v
  unfolding valued
  folds_sound rs x v i d = sound d rs i (length rs) (omega arith)

  -- ---- and where none of 3 to 6 is met, something is

  -- an answer of the expression's kind
  abbrev pub OfKind : Kind → Folded → Type 0
  OfKind k (Whole a) = k ≡ integer
  OfKind k (Truth t) = k ≡ truth
  OfKind k (Stopped s) = Unit {0}

  of_kind : (r : Sort) (k : Kind) (M : ℕ → Type 0) (f : Folded) → Exact r k M → NoneMet M → Fit r f → OfKind k f
  of_kind (S.Of K.Integer) k M (Whole a) h n t = h.0
  of_kind (S.Of K.Integer) k M (Truth u) h n t = absurd t
  of_kind (S.Of K.Integer) k M (Stopped s) h n t = tt
  of_kind (S.Of K.Truth) k M (Whole a) h n t = absurd t
  of_kind (S.Of K.Truth) k M (Truth u) h n t = h.0
  of_kind (S.Of K.Truth) k M (Stopped s) h n t = tt
  of_kind (S.Wrong s) k M f h n t = absurd (n s h.0.0)

  unary_folds : (o : Sign) (x : Expression) (f : Folded) → Folds used x f → OfKind (expression_kind used x) f → NoneMet (Meets used (unary o x)) → Folds used (unary o x) (unary_of o f)
  unary_folds o x (Stopped s) d k n = stops d
  unary_folds Plus x (Whole a) d k n = plus d
  unary_folds Minus x (Whole a) d k n = minus d
  unary_folds Absolute x (Whole a) d k n = absolute d
  unary_folds Not x (Whole a) d k n = absurd (n 6 (met.not_integer k))
  unary_folds Plus x (Truth t) d k n = absurd (n 6 (met.plus_truth k))
  unary_folds Minus x (Truth t) d k n = absurd (n 6 (met.minus_truth k))
  unary_folds Absolute x (Truth t) d k n = absurd (n 6 (met.absolute_truth k))
  unary_folds Not x (Truth t) d k n = opposite d

  logic_folds : (o : L.Logic) (x y : Expression) (t c : Bool) (g : Folded) → decides o t ≡ c → Folds used x (Truth t) → Folds used y g → OfKind (expression_kind used y) g
      → NoneMet (Meets used (binary (Logic o) x y)) → Folds used (binary (Logic o) x y) (binary_of (Logic o) (Truth t) g)
  logic_folds o x y t true g c d e l n = subst (Folds used (binary (Logic o) x y)) (sym (decided o t g c)) (skipped d c)
  logic_folds o x y t false (Whole b) c d e l n = absurd (n 6 (met.integer_right l))
  logic_folds o x y t false (Truth u) c d e l n = subst (Folds used (binary (Logic o) x y)) (sym (undecided o t u c)) (connected d c e)
  logic_folds o x y t false (Stopped s) c d e l n = subst (Folds used (binary (Logic o) x y)) (sym (passed (Logic o) t s c)) (right_stops_too d c e)

  binary_folds : (o : Operator) (x y : Expression) (f g : Folded) → Folds used x f → Folds used y g → OfKind (expression_kind used x) f → OfKind (expression_kind used y) g → NoneMet (Meets used (binary o x y))
      → Folds used (binary o x y) (binary_of o f g)
  binary_folds o x y (Stopped s) g d e k l n = left_stops d
  binary_folds (Arithmetic o) x y (Whole a) (Whole b) d e k l n = computed d e
  binary_folds (Arithmetic o) x y (Whole a) (Truth u) d e k l n = absurd (n 6 (met.truth_right l))
  binary_folds (Arithmetic o) x y (Whole a) (Stopped s) d e k l n = right_stops d e
  binary_folds (Arithmetic o) x y (Truth t) g d e k l n = absurd (n 6 (met.truth_left k))
  binary_folds (Relation o) x y (Whole a) (Whole b) d e k l n = related d e
  binary_folds (Relation o) x y (Whole a) (Truth u) d e k l n = absurd (n 6 (met.mixed_left k l))
  binary_folds (Relation o) x y (Whole a) (Stopped s) d e k l n = right_stops d e
  binary_folds (Relation o) x y (Truth t) (Whole b) d e k l n = absurd (n 6 (met.mixed_right k l))
  binary_folds (Relation o) x y (Truth t) (Truth u) d e k l n = truths_related d e
  binary_folds (Relation o) x y (Truth t) (Stopped s) d e k l n = right_stops_too d refl e
  binary_folds (Logic o) x y (Whole a) g d e k l n = absurd (n 6 (met.integer_left k))
  binary_folds (Logic o) x y (Truth t) g d e k l n = logic_folds o x y t (decides o t) g refl d e l n
  binary_folds Join x y (Whole a) g d e k l n = absurd (n 3 met.join)
  binary_folds Join x y (Truth t) g d e k l n = absurd (n 3 met.join)

  name_folds : (x : Element) (v : Value) → used x ≡ v → NoneMet (Meets used (name x)) → Folds used (name x) (operand_of v).folded
  name_folds x (value.Number z) e n = number_used e
  name_folds x (value.Truth t) e n = truth_used e
  name_folds x (value.Range low high) e n = absurd (n 6 (met.range_as_number e))
  name_folds x value.Truths e n = absurd (n 6 (met.boolean_as_number e))
  name_folds x (value.Without s) e n = absurd (n s (met.without e))

  literal_folds : (x : Element) → NoneMet (Meets used (literal x)) → Folds used (literal x) (literal_by x.kind x.bytes).folded
  literal_folds x n = go (eqb x.kind 3) refl
    where
      go : (b : Bool) → eqb x.kind 3 ≡ b → Folds used (literal x) (literal_by x.kind x.bytes).folded
      go true e = let q = eqb-true x.kind 3 e in subst (Folds used (literal x)) (sym (literal_folded x.kind x.bytes q)) (spelled q)
      go false e = absurd (n 3 (met.other_literal (eqb-false x.kind 3 e)))

  module _ (u : SoundUse late used) where
    kind_of_lem : (rs : List Row) (x : Expression) → Is p rs x → (f : ℕ) → length rs ≤ f → NoneMet (Meets used x) → OfKind (expression_kind used x) (out p used f rs).folded
    kind_of_lem rs x i f h n =
        of_kind (out p used f rs).sort (expression_kind used x) (Meets used x) (out p used f rs).folded (exact_in p used u i f h) n
        (outcome_fit _ _ _ (λ k. operand_fit (used (at p k))) (λ k. literal_by_fit (at p k).kind (at p k).bytes) f rs)

    complete : {rs : List Row} {x : Expression} → Is p rs x → (f : ℕ) → length rs ≤ f → NoneMet (Meets used x) → Folds used x (out p used f rs).folded
    complete (is_name {r = r} {rs = rs} e) f h n = subst (Folds used (name (at p r.first))) (sym (at_name f r rs h e)) (name_folds (at p r.first) (used (at p r.first)) refl n)
    complete (is_called e) f h n = absurd (n 3 met.other_form)
    complete (is_attribute e) f h n = absurd (n 3 met.other_form)
    complete (is_literal {r = r} {rs = rs} e) f h n = subst (Folds used (literal (at p r.first))) (sym (at_literal f r rs h e)) (literal_folds (at p r.first) n)
    complete (is_unary {r = r} {rs = rs} {o = o} {x = x} e q i) f h n =
        let m = (room f rs h).0 in
        let k : NoneMet (Meets used x) = λ t a. n t (met.operand a) in
        subst (Folds used (unary o x)) (sym (at_unary f r rs o h e q)) (unary_folds o x (out p used (less f) rs).folded (complete i (less f) m k) (kind_of_lem rs x i (less f) m k) n)
    complete (is_binary {r = r} {rs = rs} {o = o} {x = x} {y = y} e q i j) f h n =
        let m = room f rs h in
        let k : NoneMet (Meets used x) = λ t a. n t (met.left a) in
        let l : NoneMet (Meets used y) = λ t a. n t (met.right a) in
        subst (Folds used (binary o x y)) (sym (at_binary f r rs o h e q))
        (binary_folds o x y (out p used (less f) rs).folded (out p used (less f) (behind rs)).folded (complete i (less f) m.0 k) (complete j (less f) m.1 l)
        (kind_of_lem rs x i (less f) m.0 k) (kind_of_lem (behind rs) y j (less f) m.1 l) n)

    pub folds_complete : (rs : List Row) (x : Expression) → Is p rs x → NoneMet (Meets used x) → Folds used x (valued p used rs).folded
    unfolding valued
    folds_complete rs x i n = complete i (length rs) (omega arith) n

    pub folded_kind_lem : (rs : List Row) (x : Expression) → Is p rs x → NoneMet (Meets used x) → OfKind (expression_kind used x) (valued p used rs).folded
    unfolding valued
    folded_kind_lem rs x i n = kind_of_lem rs x i (length rs) (omega arith) n
