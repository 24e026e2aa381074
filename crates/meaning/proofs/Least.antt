-- "The smallest of 1 to 6 wins", exactly: an expression's sort, as the code combines it, is the least of the states that it meets, and its kind
-- where it meets none. Assumes nothing.
use Prim.Native.Nat.{ℕ, zero, suc, ◌≤◌, min}
use mathlib.Core.Path.{◌≡◌, refl, sym, subst}
use mathlib.Core.Logic.{◌⊎◌, inl, inr}
use mathlib.Core.Bool.{Bool, true, false}
use mathlib.Core.List.{List, [], ◌∷◌}
use native.Mathlib.Omega.{arith}
use borrow.Author.Tests.{leb-true, leb-false, eqb-true, eqb-false}
use lib.Dec.{eqb, leb}
use lib.ListN.{length, length-drop}
use Rattle.forms.specs.Tree.{Row}
use Rattle.folding.specs.declared.Operator.{Operator}
use Rattle.folding.specs.declared.Operator.TheVariants.{Arithmetic, Relation, Logic, Join}
use Rattle.folding.specs.declared.Sign.{Sign}
use Rattle.folding.specs.declared.Sign.TheVariants.{Plus, Minus, Absolute, Not}
use Rattle.folding.specs.declared.Sort.{Sort}
use Rattle.folding.specs.declared.Sort.TheVariants as S
use Rattle.folding.specs.declared.Outcome.{Outcome}
use Rattle.folding.specs.code.Outcomes.{wrong_sort, operator_sort, sign_sort, combined_of, signed_of}
use Rattle.operands.specs.code.Leaves.{wrong_leaf}
use Rattle.operands.specs.SpelledOperators.{operator_of, sign_of}
use Rattle.operands.specs.code.Operands.{literal_by}
use Rattle.marks.specs.code.Marks.{operand_of}
use Rattle.marks.proofs.Sound.{late, Sound}
use Rattle.forms.specs.Tree.{behind}
use Rattle.expressions.specs.code.Expressions.{row_outcome, outcome_in}
use Rattle.values.specs.declared.Value.{Value}
use Rattle.values.specs.declared.Value.TheVariants.{Number, Truth, Range, Truths, Without}
use Rattle.states.specs.States as state
use Rattle.integers.specs.declared.Kind.TheVariants as K
use Rattle.meaning.specs.Elements.{Element, Piece, at}
use Rattle.meaning.specs.ItemForms.{Expression, name, literal, unfolded, unary, binary, Is, is_name, is_called, is_attribute, is_literal, is_unary, is_binary}
use Rattle.meaning.specs.States.{Kind, integer, truth, neither, name_kind, sign_kind, operator_kind, expression_kind, Least, NoneMet}
use Rattle.meaning.specs.States.{Meets, other_literal, join, other_form, without, mixed_left, mixed_right, plus_truth, minus_truth, absolute_truth, truth_left, truth_right, not_integer, integer_left, integer_right, range_as_number, boolean_as_number, operand, left, right}
use Rattle.meaning.specs.code.PieceValues.{valued}
use Rattle.meaning.proofs.Sound.{SoundUse}

-- ---- an operator's own states, as lists

-- s is one of these
abbrev pub Among : ℕ → List ℕ → Type 0
Among s [] = ⊥
Among s (t ∷ l) = (s ≡ t) ⊎ Among s l

abbrev pub mixed : Kind → Kind → List ℕ
mixed integer integer = []
mixed integer truth = 6 ∷ []
mixed integer neither = []
mixed truth integer = 6 ∷ []
mixed truth truth = []
mixed truth neither = []
mixed neither l = []

abbrev pub no_truth : Kind → List ℕ
no_truth integer = []
no_truth truth = 6 ∷ []
no_truth neither = []

abbrev pub no_integer : Kind → List ℕ
no_integer integer = 6 ∷ []
no_integer truth = []
no_integer neither = []

abbrev name_states : Value → List ℕ
name_states (Number z) = []
name_states (Truth t) = []
name_states (Range low high) = 6 ∷ []
name_states Truths = 6 ∷ []
name_states (Without s) = s ∷ []

abbrev SignMeets : Sign → Kind → ℕ → Type 0
SignMeets Plus k s = Among s (no_truth k)
SignMeets Minus k s = Among s (no_truth k)
SignMeets Absolute k s = Among s (no_truth k)
SignMeets Not k s = Among s (no_integer k)

abbrev pub OperatorMeets : Operator → Kind → Kind → ℕ → Type 0
OperatorMeets (Arithmetic o) k l s = Among s (no_truth k) ⊎ Among s (no_truth l)
OperatorMeets (Relation o) k l s = Among s (mixed k l)
OperatorMeets (Logic o) k l s = Among s (no_integer k) ⊎ Among s (no_integer l)
OperatorMeets Join k l s = s ≡ 3

-- a sort is just what these states make it, and of this kind where there are none
abbrev pub Exact : Sort → Kind → (ℕ → Type 0) → Type 0
Exact (S.Of K.Integer) k M = (k ≡ integer) × NoneMet M
Exact (S.Of K.Truth) k M = (k ≡ truth) × NoneMet M
Exact (S.Wrong s) k M = Least M s × (s ≤ 6)

pub exact_via : (x : Sort) (k : Kind) (M N : ℕ → Type 0) → ((s : ℕ) → M s → N s) → ((s : ℕ) → N s → M s) → Exact x k M → Exact x k N
exact_via (S.Of K.Integer) k M N f g h = (h.0, λ t n. h.1 t (g t n))
exact_via (S.Of K.Truth) k M N f g h = (h.0, λ t n. h.1 t (g t n))
exact_via (S.Wrong s) k M N f g h = ((f s h.0.0, λ t n. h.0.1 t (g t n)), h.1)

-- ---- an operator's own state: 6, or the 3 of `&`

truth_six : (k : Kind) (t : ℕ) → Among t (no_truth k) → t ≡ 6
truth_six integer t h = absurd h
truth_six truth t (inl e) = e
truth_six truth t (inr h) = absurd h
truth_six neither t h = absurd h

integer_six : (k : Kind) (t : ℕ) → Among t (no_integer k) → t ≡ 6
integer_six integer t (inl e) = e
integer_six integer t (inr h) = absurd h
integer_six truth t h = absurd h
integer_six neither t h = absurd h

mixed_six : (k l : Kind) (t : ℕ) → Among t (mixed k l) → t ≡ 6
mixed_six integer integer t h = absurd h
mixed_six integer truth t (inl e) = e
mixed_six integer truth t (inr h) = absurd h
mixed_six integer neither t h = absurd h
mixed_six truth integer t (inl e) = e
mixed_six truth integer t (inr h) = absurd h
mixed_six truth truth t h = absurd h
mixed_six truth neither t h = absurd h
mixed_six neither l t h = absurd h

abbrev OneState : Operator → ℕ → Type 0
OneState (Arithmetic o) t = t ≡ 6
OneState (Relation o) t = t ≡ 6
OneState (Logic o) t = t ≡ 6
OneState Join t = t ≡ 3

one_state : (op : Operator) (k l : Kind) (t : ℕ) → OperatorMeets op k l t → OneState op t
one_state (Arithmetic o) k l t (inl h) = truth_six k t h
one_state (Arithmetic o) k l t (inr h) = truth_six l t h
one_state (Relation o) k l t h = mixed_six k l t h
one_state (Logic o) k l t (inl h) = integer_six k t h
one_state (Logic o) k l t (inr h) = integer_six l t h
one_state Join k l t h = h

sign_six : (o : Sign) (k : Kind) (t : ℕ) → SignMeets o k t → t ≡ 6
sign_six Plus k t h = truth_six k t h
sign_six Minus k t h = truth_six k t h
sign_six Absolute k t h = truth_six k t h
sign_six Not k t h = integer_six k t h

-- ---- beside a state

module _ (M : ℕ → Type 0) (s : ℕ) (h : Least M s) (six : s ≤ 6) (O : ℕ → Type 0) where
  plain : ((t : ℕ) → O t → t ≡ 6) → Least (λ t. O t ⊎ M t) s
  plain o = (inr h.0, below)
    where
      below : (t : ℕ) → O t ⊎ M t → s ≤ t
      below t (inl a) = omega (arith, o t a)
      below t (inr m) = h.1 t m

  joined : O 3 → ((t : ℕ) → O t → t ≡ 3) → Least (λ t. O t ⊎ M t) (min 3 s)
  joined three o = (there (leb 3 s) refl, below)
    where
      there : (b : Bool) → leb 3 s ≡ b → O (min 3 s) ⊎ M (min 3 s)
      there true e = let l = leb-true 3 s e in let z : 3 ≡ min 3 s = omega arith in inl (subst O z three)
      there false e = let z : s ≡ min 3 s = omega (arith, leb-false 3 s e) in inr (subst M z h.0)

      below : (t : ℕ) → O t ⊎ M t → min 3 s ≤ t
      below t (inl a) = omega (arith, o t a)
      below t (inr m) = omega (arith, h.1 t m)

beside_wrong : (op : Operator) (k l : Kind) (M : ℕ → Type 0) (s : ℕ) → Least M s → s ≤ 6 → Exact (wrong_sort op s) (operator_kind op) (λ t. OperatorMeets op k l t ⊎ M t)
beside_wrong (Arithmetic o) k l M s h six = (plain M s h six (OperatorMeets (Arithmetic o) k l) (one_state (Arithmetic o) k l), six)
beside_wrong (Relation o) k l M s h six = (plain M s h six (OperatorMeets (Relation o) k l) (one_state (Relation o) k l), six)
beside_wrong (Logic o) k l M s h six = (plain M s h six (OperatorMeets (Logic o) k l) (one_state (Logic o) k l), six)
beside_wrong Join k l M s h six = (joined M s h six (OperatorMeets Join k l) refl (one_state Join k l), omega arith)

-- ---- two operands

abbrev Both : (M N : ℕ → Type 0) → ℕ → Type 0
Both M N t = M t ⊎ N t

module _ (M N : ℕ → Type 0) where
  none_both : NoneMet M → NoneMet N → NoneMet (Both M N)
  none_both m n t (inl a) = m t a
  none_both m n t (inr b) = n t b

  left_only : (s : ℕ) → Least M s → NoneMet N → Least (Both M N) s
  left_only s h n = (inl h.0, below)
    where
      below : (t : ℕ) → Both M N t → s ≤ t
      below t (inl a) = h.1 t a
      below t (inr b) = absurd (n t b)

  right_only : (s : ℕ) → NoneMet M → Least N s → Least (Both M N) s
  right_only s n h = (inr h.0, below)
    where
      below : (t : ℕ) → Both M N t → s ≤ t
      below t (inl a) = absurd (n t a)
      below t (inr b) = h.1 t b

  least_both : (s t : ℕ) → Least M s → Least N t → Least (Both M N) (min s t)
  least_both s t h k = (there (leb s t) refl, below)
    where
      there : (b : Bool) → leb s t ≡ b → Both M N (min s t)
      there true e = let l = leb-true s t e in let z : s ≡ min s t = omega arith in inl (subst M z h.0)
      there false e = let z : t ≡ min s t = omega (arith, leb-false s t e) in inr (subst N z k.0)

      below : (v : ℕ) → Both M N v → min s t ≤ v
      below v (inl a) = omega (arith, h.1 v a)
      below v (inr b) = omega (arith, k.1 v b)

own_least : (O M : ℕ → Type 0) (s : ℕ) → O s → ((t : ℕ) → O t → t ≡ s) → NoneMet M → Least (Both O M) s
own_least O M s h o m = left_only O M s (h, λ t a. omega (arith, o t a)) m

no_sum : NoneMet (λ t. ⊥ ⊎ ⊥)
no_sum t (inl h) = h
no_sum t (inr h) = h

integers : (op : Operator) (M : ℕ → Type 0) → NoneMet M → Exact (operator_sort op (S.Of K.Integer) (S.Of K.Integer)) (operator_kind op) (Both (OperatorMeets op integer integer) M)
integers (Arithmetic o) M m = (refl, none_both _ M no_sum m)
integers (Relation o) M m = (refl, none_both _ M (λ t h. h) m)
integers (Logic o) M m = (own_least _ M 6 (inl (inl refl)) (one_state (Logic o) integer integer) m, omega arith)
integers Join M m = (own_least _ M 3 refl (one_state Join integer integer) m, omega arith)

truths : (op : Operator) (M : ℕ → Type 0) → NoneMet M → Exact (operator_sort op (S.Of K.Truth) (S.Of K.Truth)) (operator_kind op) (Both (OperatorMeets op truth truth) M)
truths (Arithmetic o) M m = (own_least _ M 6 (inl (inl refl)) (one_state (Arithmetic o) truth truth) m, omega arith)
truths (Relation o) M m = (refl, none_both _ M (λ t h. h) m)
truths (Logic o) M m = (refl, none_both _ M no_sum m)
truths Join M m = (own_least _ M 3 refl (one_state Join truth truth) m, omega arith)

unlike_left : (op : Operator) (M : ℕ → Type 0) → NoneMet M → Exact (operator_sort op (S.Of K.Integer) (S.Of K.Truth)) (operator_kind op) (Both (OperatorMeets op integer truth) M)
unlike_left (Arithmetic o) M m = (own_least _ M 6 (inr (inl refl)) (one_state (Arithmetic o) integer truth) m, omega arith)
unlike_left (Relation o) M m = (own_least _ M 6 (inl refl) (one_state (Relation o) integer truth) m, omega arith)
unlike_left (Logic o) M m = (own_least _ M 6 (inl (inl refl)) (one_state (Logic o) integer truth) m, omega arith)
unlike_left Join M m = (own_least _ M 3 refl (one_state Join integer truth) m, omega arith)

unlike_right : (op : Operator) (M : ℕ → Type 0) → NoneMet M → Exact (operator_sort op (S.Of K.Truth) (S.Of K.Integer)) (operator_kind op) (Both (OperatorMeets op truth integer) M)
unlike_right (Arithmetic o) M m = (own_least _ M 6 (inl (inl refl)) (one_state (Arithmetic o) truth integer) m, omega arith)
unlike_right (Relation o) M m = (own_least _ M 6 (inl refl) (one_state (Relation o) truth integer) m, omega arith)
unlike_right (Logic o) M m = (own_least _ M 6 (inr (inl refl)) (one_state (Logic o) truth integer) m, omega arith)
unlike_right Join M m = (own_least _ M 3 refl (one_state Join truth integer) m, omega arith)

pub operator_exact : (op : Operator) (x y : Sort) (k l : Kind) (M N : ℕ → Type 0) → Exact x k M → Exact y l N
    → Exact (operator_sort op x y) (operator_kind op) (Both (OperatorMeets op k l) (Both M N))
operator_exact op (S.Of K.Integer) (S.Of K.Integer) k l M N h i = rw (h.0, i.0) (integers op (Both M N) (none_both M N h.1 i.1))
operator_exact op (S.Of K.Integer) (S.Of K.Truth) k l M N h i = rw (h.0, i.0) (unlike_left op (Both M N) (none_both M N h.1 i.1))
operator_exact op (S.Of K.Integer) (S.Wrong t) k l M N h i = beside_wrong op k l (Both M N) t (right_only M N t h.1 i.0) i.1
operator_exact op (S.Of K.Truth) (S.Of K.Integer) k l M N h i = rw (h.0, i.0) (unlike_right op (Both M N) (none_both M N h.1 i.1))
operator_exact op (S.Of K.Truth) (S.Of K.Truth) k l M N h i = rw (h.0, i.0) (truths op (Both M N) (none_both M N h.1 i.1))
operator_exact op (S.Of K.Truth) (S.Wrong t) k l M N h i = beside_wrong op k l (Both M N) t (right_only M N t h.1 i.0) i.1
operator_exact op (S.Wrong s) (S.Of K.Integer) k l M N h i = beside_wrong op k l (Both M N) s (left_only M N s h.0 i.1) h.1
operator_exact op (S.Wrong s) (S.Of K.Truth) k l M N h i = beside_wrong op k l (Both M N) s (left_only M N s h.0 i.1) h.1
operator_exact op (S.Wrong s) (S.Wrong t) k l M N h i = beside_wrong op k l (Both M N) (min s t) (least_both M N s t h.0 i.0) (let a = h.1 in omega arith)

-- ---- one operand

on_integer : (o : Sign) (M : ℕ → Type 0) → NoneMet M → Exact (sign_sort o (S.Of K.Integer)) (sign_kind o) (Both (SignMeets o integer) M)
on_integer Plus M m = (refl, none_both _ M (λ t h. h) m)
on_integer Minus M m = (refl, none_both _ M (λ t h. h) m)
on_integer Absolute M m = (refl, none_both _ M (λ t h. h) m)
on_integer Not M m = (own_least _ M 6 (inl refl) (sign_six Not integer) m, omega arith)

on_truth : (o : Sign) (M : ℕ → Type 0) → NoneMet M → Exact (sign_sort o (S.Of K.Truth)) (sign_kind o) (Both (SignMeets o truth) M)
on_truth Plus M m = (own_least _ M 6 (inl refl) (sign_six Plus truth) m, omega arith)
on_truth Minus M m = (own_least _ M 6 (inl refl) (sign_six Minus truth) m, omega arith)
on_truth Absolute M m = (own_least _ M 6 (inl refl) (sign_six Absolute truth) m, omega arith)
on_truth Not M m = (refl, none_both _ M (λ t h. h) m)

sign_exact : (o : Sign) (x : Sort) (k : Kind) (M : ℕ → Type 0) → Exact x k M → Exact (sign_sort o x) (sign_kind o) (Both (SignMeets o k) M)
sign_exact o (S.Of K.Integer) k M h = rw h.0 (on_integer o M h.1)
sign_exact o (S.Of K.Truth) k M h = rw h.0 (on_truth o M h.1)
sign_exact o (S.Wrong s) k M h = (plain M s h.0 h.1 (SignMeets o k) (sign_six o k), h.1)

-- ---- what stands at a row

-- 6 is met exactly where a kind is the wrong one
pub truth_met : (k : Kind) → k ≡ truth → Among 6 (no_truth k)
truth_met k e = subst (λ (x : Kind). Among 6 (no_truth x)) (sym e) (inl refl)

pub integer_met : (k : Kind) → k ≡ integer → Among 6 (no_integer k)
integer_met k e = subst (λ (x : Kind). Among 6 (no_integer x)) (sym e) (inl refl)

pub truth_of : (k : Kind) (s : ℕ) → Among s (no_truth k) → (k ≡ truth) × (s ≡ 6)
truth_of integer s h = absurd h
truth_of truth s (inl e) = (refl, e)
truth_of truth s (inr h) = absurd h
truth_of neither s h = absurd h

pub integer_of : (k : Kind) (s : ℕ) → Among s (no_integer k) → (k ≡ integer) × (s ≡ 6)
integer_of integer s (inl e) = (refl, e)
integer_of integer s (inr h) = absurd h
integer_of truth s h = absurd h
integer_of neither s h = absurd h

pub mixed_of : (k l : Kind) (s : ℕ) → Among s (mixed k l) → (((k ≡ integer) × (l ≡ truth)) ⊎ ((k ≡ truth) × (l ≡ integer))) × (s ≡ 6)
mixed_of integer integer s h = absurd h
mixed_of integer truth s (inl e) = (inl (refl, refl), e)
mixed_of integer truth s (inr h) = absurd h
mixed_of integer neither s h = absurd h
mixed_of truth integer s (inl e) = (inr (refl, refl), e)
mixed_of truth integer s (inr h) = absurd h
mixed_of truth truth s h = absurd h
mixed_of truth neither s h = absurd h
mixed_of neither l s h = absurd h

pub mixed_met : (k l a b : Kind) → Among 6 (mixed a b) → k ≡ a → l ≡ b → Among 6 (mixed k l)
mixed_met k l a b h e f = subst (λ (x : Kind). Among 6 (mixed x l)) (sym e) (subst (λ (x : Kind). Among 6 (mixed a x)) (sym f) h)

pub one_least : (s : ℕ) → Least (λ t. Among t (s ∷ [])) s
one_least s = (inl refl, below)
  where
    below : (t : ℕ) → Among t (s ∷ []) → s ≤ t
    below t (inl e) = omega arith
    below t (inr h) = absurd h

states_exact : (v : Value) → Sound late v → Exact (operand_of v).sort (name_kind v) (λ s. Among s (name_states v))
states_exact (Number z) h = (refl, λ t a. a)
states_exact (Truth z) h = (refl, λ t a. a)
states_exact (Range low high) h = (one_least 6, omega arith)
states_exact Truths h = (one_least 6, omega arith)
states_exact (Without s) h = (one_least s, h.1)

module _ (used : Element → Value) where
  -- a name
  made_name : (x : Element) (s : ℕ) (v : Value) → used x ≡ v → Among s (name_states v) → Meets used (name x) s
  made_name x s (Number z) e h = absurd h
  made_name x s (Truth z) e h = absurd h
  made_name x s (Range low high) e (inl i) = subst (Meets used (name x)) (sym i) (range_as_number e)
  made_name x s (Range low high) e (inr h) = absurd h
  made_name x s Truths e (inl i) = subst (Meets used (name x)) (sym i) (boolean_as_number e)
  made_name x s Truths e (inr h) = absurd h
  made_name x s (Without t) e (inl i) = subst (Meets used (name x)) (sym i) (without e)
  made_name x s (Without t) e (inr h) = absurd h

  taken_name : (x : Element) (s : ℕ) → Meets used (name x) s → Among s (name_states (used x))
  taken_name x s (without e) = subst (λ (v : Value). Among s (name_states v)) (sym e) (inl refl)
  taken_name x s (range_as_number e) = subst (λ (v : Value). Among 6 (name_states v)) (sym e) (inl refl)
  taken_name x s (boolean_as_number e) = subst (λ (v : Value). Among 6 (name_states v)) (sym e) (inl refl)

  name_exact : (x : Element) → Sound late (used x) → Exact (operand_of (used x)).sort (expression_kind used (name x)) (Meets used (name x))
  name_exact x h =
      exact_via (operand_of (used x)).sort (name_kind (used x)) (λ s. Among s (name_states (used x))) (Meets used (name x)) (λ s a. made_name x s (used x) refl a) (taken_name x)
      (states_exact (used x) h)

  -- a literal
  literal_exact : (x : Element) → Exact (literal_by x.kind x.bytes).sort (expression_kind used (literal x)) (Meets used (literal x))
  unfolding literal_by
  literal_exact x = go (eqb x.kind 3) refl
    where
      none : x.kind ≡ 3 → (t : ℕ) → Meets used (literal x) t → ⊥
      none e t (other_literal d) = d e

      three : (t : ℕ) → Meets used (literal x) t → 3 ≤ t
      three t (other_literal d) = omega arith

      go : (b : Bool) → eqb x.kind 3 ≡ b → Exact (literal_by x.kind x.bytes).sort (expression_kind used (literal x)) (Meets used (literal x))
      go true e = rw e (refl, none (eqb-true x.kind 3 e))
      go false e = rw e ((other_literal (eqb-false x.kind 3 e), three), omega arith)

  form_exact : Exact (S.Wrong state.unfolded) (expression_kind used unfolded) (Meets used unfolded)
  form_exact = ((other_form, three), omega arith)
    where
      three : (t : ℕ) → Meets used unfolded t → 3 ≤ t
      three t other_form = omega arith

  -- a sign
  made_sign : (o : Sign) (x : Expression) (s : ℕ) → Both (SignMeets o (expression_kind used x)) (Meets used x) s → Meets used (unary o x) s
  made_sign o x s (inr h) = operand h
  made_sign Plus x s (inl h) = let e = truth_of (expression_kind used x) s h in subst (Meets used (unary Plus x)) (sym e.1) (plus_truth e.0)
  made_sign Minus x s (inl h) = let e = truth_of (expression_kind used x) s h in subst (Meets used (unary Minus x)) (sym e.1) (minus_truth e.0)
  made_sign Absolute x s (inl h) = let e = truth_of (expression_kind used x) s h in subst (Meets used (unary Absolute x)) (sym e.1) (absolute_truth e.0)
  made_sign Not x s (inl h) = let e = integer_of (expression_kind used x) s h in subst (Meets used (unary Not x)) (sym e.1) (not_integer e.0)

  taken_sign : (o : Sign) (x : Expression) (s : ℕ) → Meets used (unary o x) s → Both (SignMeets o (expression_kind used x)) (Meets used x) s
  taken_sign o x s (plus_truth e) = inl (truth_met (expression_kind used x) e)
  taken_sign o x s (minus_truth e) = inl (truth_met (expression_kind used x) e)
  taken_sign o x s (absolute_truth e) = inl (truth_met (expression_kind used x) e)
  taken_sign o x s (not_integer e) = inl (integer_met (expression_kind used x) e)
  taken_sign o x s (operand h) = inr h

  -- an operator
  own_operator : (o : Operator) (x y : Expression) (s : ℕ) → OperatorMeets o (expression_kind used x) (expression_kind used y) s → Meets used (binary o x y) s
  own_operator (Arithmetic o) x y s (inl h) = let e = truth_of (expression_kind used x) s h in subst (Meets used (binary (Arithmetic o) x y)) (sym e.1) (truth_left e.0)
  own_operator (Arithmetic o) x y s (inr h) = let e = truth_of (expression_kind used y) s h in subst (Meets used (binary (Arithmetic o) x y)) (sym e.1) (truth_right e.0)
  own_operator (Relation o) x y s h = let e = mixed_of (expression_kind used x) (expression_kind used y) s h in subst (Meets used (binary (Relation o) x y)) (sym e.1) (by e.0)
    where
      by : ((expression_kind used x ≡ integer) × (expression_kind used y ≡ truth)) ⊎ ((expression_kind used x ≡ truth) × (expression_kind used y ≡ integer)) → Meets used (binary (Relation o) x y) 6
      by (inl h) = mixed_left h.0 h.1
      by (inr h) = mixed_right h.0 h.1
  own_operator (Logic o) x y s (inl h) = let e = integer_of (expression_kind used x) s h in subst (Meets used (binary (Logic o) x y)) (sym e.1) (integer_left e.0)
  own_operator (Logic o) x y s (inr h) = let e = integer_of (expression_kind used y) s h in subst (Meets used (binary (Logic o) x y)) (sym e.1) (integer_right e.0)
  own_operator Join x y s h = subst (Meets used (binary Join x y)) (sym h) join

  made_operator : (o : Operator) (x y : Expression) (s : ℕ) → Both (OperatorMeets o (expression_kind used x) (expression_kind used y)) (Both (Meets used x) (Meets used y)) s → Meets used (binary o x y) s
  made_operator o x y s (inl h) = own_operator o x y s h
  made_operator o x y s (inr (inl h)) = left h
  made_operator o x y s (inr (inr h)) = right h

  taken_operator : (o : Operator) (x y : Expression) (s : ℕ) → Meets used (binary o x y) s → Both (OperatorMeets o (expression_kind used x) (expression_kind used y)) (Both (Meets used x) (Meets used y)) s
  taken_operator o x y s join = inl refl
  taken_operator o x y s (mixed_left e f) = inl (mixed_met (expression_kind used x) (expression_kind used y) integer truth (inl refl) e f)
  taken_operator o x y s (mixed_right e f) = inl (mixed_met (expression_kind used x) (expression_kind used y) truth integer (inl refl) e f)
  taken_operator o x y s (truth_left e) = inl (inl (truth_met (expression_kind used x) e))
  taken_operator o x y s (truth_right e) = inl (inr (truth_met (expression_kind used y) e))
  taken_operator o x y s (integer_left e) = inl (inl (integer_met (expression_kind used x) e))
  taken_operator o x y s (integer_right e) = inl (inr (integer_met (expression_kind used y) e))
  taken_operator o x y s (left h) = inr (inl h)
  taken_operator o x y s (right h) = inr (inr h)

  unary_exact : (o : Sign) (x : Expression) (r : Sort) → Exact r (expression_kind used x) (Meets used x) → Exact (sign_sort o r) (expression_kind used (unary o x)) (Meets used (unary o x))
  unary_exact o x r h =
      exact_via (sign_sort o r) (sign_kind o) (Both (SignMeets o (expression_kind used x)) (Meets used x)) (Meets used (unary o x)) (made_sign o x) (taken_sign o x) (sign_exact o r (expression_kind used x) (Meets used x) h)

  binary_exact : (o : Operator) (x y : Expression) (r t : Sort) → Exact r (expression_kind used x) (Meets used x) → Exact t (expression_kind used y) (Meets used y)
      → Exact (operator_sort o r t) (expression_kind used (binary o x y)) (Meets used (binary o x y))
  binary_exact o x y r t h i =
      exact_via (operator_sort o r t) (operator_kind o) (Both (OperatorMeets o (expression_kind used x) (expression_kind used y)) (Both (Meets used x) (Meets used y))) (Meets used (binary o x y))
      (made_operator o x y) (taken_operator o x y) (operator_exact o r t (expression_kind used x) (expression_kind used y) (Meets used x) (Meets used y) h i)

-- ---- an expression

pub behind_less : (rs : List Row) → length (behind rs) ≤ length rs
behind_less [] = omega arith
behind_less (r ∷ rs) = omega (arith, length-drop r.rows (r ∷ rs))

module _ (p : Piece) (used : Element → Value) where
  abbrev pub row_of : Row → Outcome → Outcome → Outcome
  row_of = row_outcome (λ i. operand_of (used (at p i))) (λ i. literal_by (at p i).kind (at p i).bytes) (λ i. (at p i).kind)

  abbrev pub out : ℕ → List Row → Outcome
  out = outcome_in (λ i. operand_of (used (at p i))) (λ i. literal_by (at p i).kind (at p i).bytes) (λ i. (at p i).kind)

  pub row_name : (r : Row) (x y : Outcome) → r.form ≡ 24 → row_of r x y ≡ operand_of (used (at p r.first))
  unfolding row_outcome
  row_name r x y e = rw e

  pub row_called : (r : Row) (x y : Outcome) → r.form ≡ 25 → row_of r x y ≡ wrong_leaf state.unfolded
  unfolding row_outcome
  row_called r x y e = rw e

  pub row_attribute : (r : Row) (x y : Outcome) → r.form ≡ 26 → row_of r x y ≡ wrong_leaf state.unfolded
  unfolding row_outcome
  row_attribute r x y e = rw e

  pub row_literal : (r : Row) (x y : Outcome) → r.form ≡ 27 → row_of r x y ≡ literal_by (at p r.first).kind (at p r.first).bytes
  unfolding row_outcome
  row_literal r x y e = rw e

  pub row_unary : (r : Row) (o : Sign) (x y : Outcome) → r.form ≡ 28 → sign_of (at p r.operator).kind ≡ o → row_of r x y ≡ signed_of o x
  unfolding row_outcome
  row_unary r o x y e q = rw (e, q)

  pub row_binary : (r : Row) (o : Operator) (x y : Outcome) → r.form ≡ 29 → operator_of (at p r.operator).kind ≡ o → row_of r x y ≡ combined_of o x y
  unfolding row_outcome
  row_binary r o x y e q = rw (e, q)

  module _ (u : SoundUse late used) where
    pub exact_in : {rs : List Row} {x : Expression} → Is p rs x → (f : ℕ) → length rs ≤ f → Exact (out f rs).sort (expression_kind used x) (Meets used x)
    unfolding outcome_in
    exact_in (is_name {r = r} {rs = rs} e) zero h = absurd (omega arith)
    exact_in (is_name {r = r} {rs = rs} e) (suc f) h = rw (row_name r (out f rs) (out f (behind rs)) e) (name_exact used (at p r.first) (u (at p r.first)))
    exact_in (is_called {r = r} {rs = rs} e) zero h = absurd (omega arith)
    exact_in (is_called {r = r} {rs = rs} e) (suc f) h = rw (row_called r (out f rs) (out f (behind rs)) e) (form_exact used)
    exact_in (is_attribute {r = r} {rs = rs} e) zero h = absurd (omega arith)
    exact_in (is_attribute {r = r} {rs = rs} e) (suc f) h = rw (row_attribute r (out f rs) (out f (behind rs)) e) (form_exact used)
    exact_in (is_literal {r = r} {rs = rs} e) zero h = absurd (omega arith)
    exact_in (is_literal {r = r} {rs = rs} e) (suc f) h = rw (row_literal r (out f rs) (out f (behind rs)) e) (literal_exact used (at p r.first))
    exact_in (is_unary {r = r} {rs = rs} e q i) zero h = absurd (omega arith)
    exact_in (is_unary {r = r} {rs = rs} {o = o} {x = x} e q i) (suc f) h =
        rw (row_unary r o (out f rs) (out f (behind rs)) e q) (unary_exact used o x (out f rs).sort (exact_in i f (omega arith)))
    exact_in (is_binary {r = r} {rs = rs} e q i j) zero h = absurd (omega arith)
    exact_in (is_binary {r = r} {rs = rs} {o = o} {x = x} {y = y} e q i j) (suc f) h =
        rw (row_binary r o (out f rs) (out f (behind rs)) e q)
        (binary_exact used o x y (out f rs).sort (out f (behind rs)).sort (exact_in i f (omega arith)) (exact_in j f (omega (arith, behind_less rs))))

    pub valued_exact : (rs : List Row) (x : Expression) → Is p rs x → Exact (valued p used rs).sort (expression_kind used x) (Meets used x)
    unfolding valued
    valued_exact rs x i = exact_in i (length rs) (omega arith)
