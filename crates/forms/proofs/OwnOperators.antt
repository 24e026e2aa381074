-- The operator column of every row is right: what the lines of forms 28 and 29 say of a row's own items, and of the other forms what the
-- marks of the rules say. Assumes nothing.
use Prim.Native.Nat.{ℕ, zero, suc, ◌+◌}
use Prim.Native.String.{String}
use mathlib.Core.Path.{◌≡◌, refl, sym, ◌∙◌, ap, subst}
use mathlib.Core.Logic.{inl, inr, ⊎_elim}
use mathlib.Core.Bool.{Bool, true, false, ◌&&◌, ◌||◌, cond}
use mathlib.Core.List.{List, [], ◌∷◌, ◌++◌}
use native.Mathlib.Omega.{arith}
use lib.Dec.{T, eqb, eqb→eq}
use lib.ListN.{get_or}
use Rattle.grammars.proofs.Theory.{and_left, and_right, or_cases}
use Rattle.forms.specs.Tree.{Row, EachRow}
use Rattle.forms.specs.code.RuleActions.{State, state_rows, Reading}
use Rattle.forms.specs.Spellings.{spelled_each, is_in, spelled_among}
use Rattle.forms.specs.OperatorElements.{unary_operators, binary_operators, HasOperator, OperatorRight, OperatorsRight, children_in}
use Rattle.forms.specs.FormLines.{OwnItem, at, row, operates, Pattern, nothing, one, operand, both, either, many, form_line, IsOf, code_of, Fits, none, this, bare, inside, then, left, right, no_more, more, own_items, IsAmong, operator_at, RowsFit}
use Rattle.forms.proofs.Patterns.{subset, subset_at}
use Rattle.forms.proofs.Operators.{Within, MarkRight, operators_marked}
use Rattle.forms.proofs.Fitting.{rows_fit}
use Rattle.laws.proofs.Laws.{is_true}

children_append : (x y : List OwnItem) → children_in (x ++ y) ≡ children_in x + children_in y
children_append [] y = omega arith
children_append (at i ∷ x) y = children_append x y
children_append (row s ∷ x) y = omega (arith, children_append x y)

among_left : (i : OwnItem) (x y : List OwnItem) → IsAmong i x → IsAmong i (x ++ y)
among_left i [] y h = absurd h
among_left i (j ∷ x) y (inl e) = inl e
among_left i (j ∷ x) y (inr h) = inr (among_left i x y h)

among_right : (i : OwnItem) (x y : List OwnItem) → IsAmong i y → IsAmong i (x ++ y)
among_right i [] y h = h
among_right i (j ∷ x) y h = inr (among_right i x y h)

-- how many children the items of a pattern have, where that is told
abbrev children : Pattern → ℕ
children nothing = 0
children (one zero K) = 0
children (one (suc zero) K) = 0
children (one (suc (suc t)) K) = 1
children (operand S) = 1
children (both a b) = children a + children b
children (either a b) = children a
children (many a) = 0

abbrev told : Pattern → Bool
told nothing = true
told (one t K) = true
told (operand S) = true
told (both a b) = told a && told b
told (either a b) = told a && (told b && eqb (children b) (children a))
told (many a) = false

-- the operator is one of the items of a pattern, and of one of these kinds
abbrev marked : List ℕ → Pattern → Bool
marked kinds nothing = false
marked kinds (one t K) = eqb t 1 && subset K kinds
marked kinds (operand S) = false
marked kinds (both a b) = marked kinds a || marked kinds b
marked kinds (either a b) = marked kinds a && marked kinds b
marked kinds (many a) = false

module _ (w : List ℕ) (q : ℕ) where
  children_told : {p : Pattern} {x : List OwnItem} → Fits w q p x → T (told p) → children_in x ≡ children p
  children_told none h = refl
  children_told (this {t = zero} {x = at i} e m) h = refl
  children_told (this {t = suc zero} {x = at i} e m) h = refl
  children_told (this {t = suc (suc t)} {x = at i} e m) h = absurd e
  children_told (this {t = zero} {x = row s} e m) h = absurd e
  children_told (this {t = suc zero} {x = row s} e m) h = absurd e
  children_told (this {t = suc (suc t)} {x = row s} e m) h = refl
  children_told (bare m) h = refl
  children_told (inside {x = y} i j a f b d) h = ap children_in d ∙ omega (arith, children_append y (at j ∷ []), children_told f tt)
  children_told (then {a = a} {b = b} {x = x} {y = y} f g d) h =
      ap children_in d ∙ omega (arith, children_append x y, children_told f (and_left (told a) (told b) h), children_told g (and_right (told a) (told b) h))
  children_told (left {a = a} {b = b} f) h = children_told f (and_left (told a) (told b && eqb (children b) (children a)) h)
  children_told (right {a = a} {b = b} f) h =
      let k = and_right (told a) (told b && eqb (children b) (children a)) h in
      children_told f (and_left (told b) (eqb (children b) (children a)) k) ∙ eqb→eq (children b) (children a) (and_right (told b) (eqb (children b) (children a)) k)
  children_told no_more h = absurd h
  children_told (more f g d) h = absurd h

module _ (w : List ℕ) (o : ℕ) (kinds : List ℕ) where
  abbrev Has : List OwnItem → Type 0
  Has x = IsAmong (at o) x × T (is_in (get_or w o 0) kinds)

  operator_marked : {p : Pattern} {x : List OwnItem} → Fits w (suc o) p x → T (marked kinds p) → Has x
  operator_marked none h = absurd h
  operator_marked (this {t = t} {K = K} {x = i} e m) h = by t i (eqb→eq t 1 (and_left (eqb t 1) (subset K kinds) h)) e m
    where
      by : (t : ℕ) (i : OwnItem) → t ≡ 1 → IsOf (suc o) t i → T (is_in (code_of w i) K) → Has (i ∷ [])
      by zero i z e m = absurd (omega arith)
      by (suc zero) (at i) z e m =
          let y : o ≡ i = omega arith in
          (inl (ap at y), subset_at K kinds (and_right (eqb t 1) (subset K kinds) h) (get_or w o 0) (subst (λ (j : ℕ). T (is_in (get_or w j 0) K)) (sym y) m))
      by (suc zero) (row s) z e m = absurd e
      by (suc (suc t)) i z e m = absurd (omega arith)
  operator_marked (bare m) h = absurd h
  operator_marked (inside i j a f b d) h = absurd h
  operator_marked (then {a = a} {b = b} {x = x} {y = y} f g d) h =
      ⊎_elim (λ k. let m = operator_marked f k in (subst (IsAmong (at o)) (sym d) (among_left (at o) x y m.0), m.1))
      (λ k. let m = operator_marked g k in (subst (IsAmong (at o)) (sym d) (among_right (at o) x y m.0), m.1))
      (or_cases (marked kinds a) (marked kinds b) h)
  operator_marked (left {a = a} {b = b} f) h = operator_marked f (and_left (marked kinds a) (marked kinds b) h)
  operator_marked (right {a = a} {b = b} f) h = operator_marked f (and_right (marked kinds a) (marked kinds b) h)
  operator_marked no_more h = absurd h
  operator_marked (more f g d) h = absurd h

-- so it is on the two lines, by computing
has : (w : List ℕ) (kinds : List String) (r : Row) (l : List Row) (p : Pattern) → T (marked (spelled_each kinds) p) → T (told p) → Fits w (suc r.operator) p (own_items w r l) → HasOperator w kinds (children p) r l
has w kinds r l p a b f =
    let m = operator_marked w r.operator (spelled_each kinds) f a in
    (m.0, is_true (spelled_among (get_or w r.operator 0) kinds) m.1, children_told w (suc r.operator) f b)

-- a row whose form is told by a test
by_form : (w : List ℕ) (r : Row) (l : List Row) → Fits w (operator_at r) (form_line r.form) (own_items w r l) → MarkRight w r → OperatorRight w r l
by_form w r l f m = by (eqb r.form 28) (eqb r.form 29) refl refl m
  where
    on : (n : ℕ) → r.form ≡ n → Fits w (cond (operates n) (suc r.operator) 0) (form_line n) (own_items w r l)
    on n e = subst (λ (n : ℕ). Fits w (cond (operates n) (suc r.operator) 0) (form_line n) (own_items w r l)) e f

    by : (a b : Bool) → eqb r.form 28 ≡ a → eqb r.form 29 ≡ b → cond a (Within w unary_operators r) (cond b (Within w binary_operators r) (r.operator ≡ r.first))
        → cond a (HasOperator w unary_operators 1 r l) (cond b (HasOperator w binary_operators 2 r l) (r.operator ≡ r.first))
    by true b p q m = let e = eqb→eq r.form 28 (subst T (sym p) tt) in has w unary_operators r l (form_line 28) tt tt (on 28 e)
    by false true p q m = let e = eqb→eq r.form 29 (subst T (sym q) tt) in has w binary_operators r l (form_line 29) tt tt (on 29 e)
    by false false p q m = m

right_all : (w : List ℕ) (l : List Row) → RowsFit w l → EachRow (MarkRight w) l → OperatorsRight w l
right_all w [] f m = tt
right_all w (r ∷ l) f m = (by_form w r l f.1 m.0, right_all w l f.2 m.1)

pub operators_right : (alike : ℕ → ℕ → Bool) (w : List ℕ) (s : State) → Reading alike w s → OperatorsRight w (state_rows s)
operators_right alike w s r = right_all w (state_rows s) (rows_fit alike w s r).1 (operators_marked alike w s r)
