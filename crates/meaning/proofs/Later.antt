-- What an expression of a kind folds to is of that kind, or is stopped by one of 7 to 9; what an item then ends in, beside its mark. Assumes
-- nothing.
use Prim.Native.Nat.{ℕ, zero, suc, ◌≤◌, min}
use mathlib.Core.Path.{◌≡◌, refl, sym, subst}
use mathlib.Core.Bool.{Bool, true, false, cond, ◌&&◌}
use mathlib.Core.List.{List, [], ◌∷◌}
use native.Mathlib.Omega.{arith}
use lib.Dec.{eqb, leb}
use lib.IntN.{ℤ, pos, negsuc, nat_abs}
use lib.Signed.{lt_z, le_z, quot_z, rem_z}
use Rattle.forms.specs.Tree.{Row}
use Rattle.integers.specs.Integers.{sized_of, divided_of, to_sign, power_of, arithmetic_of}
use Rattle.integers.specs.declared.Folded.{Folded}
use Rattle.integers.specs.declared.Folded.TheVariants as F
use Rattle.integers.specs.declared.Arithmetic.{Arithmetic}
use Rattle.integers.specs.declared.Arithmetic.TheVariants as A
use Rattle.folding.specs.declared.Logic.{Logic}
use Rattle.folding.specs.declared.Relation.TheVariants.{Equal}
use Rattle.folding.specs.declared.Operator.{Operator}
use Rattle.folding.specs.declared.Operator.TheVariants as O
use Rattle.folding.specs.declared.Sign.{Sign}
use Rattle.folding.specs.declared.Sign.TheVariants as G
use Rattle.folding.specs.declared.Sort.{Sort}
use Rattle.folding.specs.declared.Sort.TheVariants as S
use Rattle.folding.specs.declared.Outcome.{Outcome}
use Rattle.folding.specs.Operators.{decides, logic_of}
use Rattle.folding.specs.code.Folding.{after_truth, binary_of, unary_of}
use Rattle.folding.specs.code.Outcomes.{wrong_sort, operator_sort, sign_sort, combined_of, signed_of, settle}
use Rattle.operands.specs.code.Leaves.{wrong_leaf, literal_leaf}
use Rattle.operands.proofs.Literal.{literal_sized}
use Rattle.operands.specs.SpelledOperators.{operator_of, sign_of}
use Rattle.operands.specs.code.Operands.{literal_by}
use Rattle.marks.specs.code.Marks.{operand_of, mark_sort, held_by, value_in, constant_of, subtype_of, inside_of, directed, bounds_in, ranged_of}
use Rattle.forms.specs.Tree.{behind}
use Rattle.expressions.specs.code.Expressions.{row_outcome, outcome_in}
use Rattle.values.specs.declared.Value.{Value}
use Rattle.values.specs.declared.Value.TheVariants.{Number, Truth, Range, Truths, Without}
use Rattle.states.specs.States as state
use Rattle.integers.specs.declared.Kind.TheVariants as K
use Rattle.meaning.specs.Elements.{Element, Piece, at}
use Rattle.meaning.specs.code.PieceValues.{valued}

-- a value, or one of the states 7 to 10
abbrev pub Later : Value → Type 0
Later (Number z) = Unit {0}
Later (Truth t) = Unit {0}
Later (Range low high) = Unit {0}
Later Truths = Unit {0}
Later (Without s) = 7 ≤ s

-- ---- a folding beside a sort

abbrev pub Fit : Sort → Folded → Type 0
Fit (S.Of K.Integer) (F.Whole z) = Unit {0}
Fit (S.Of K.Integer) (F.Truth t) = ⊥
Fit (S.Of K.Integer) (F.Stopped s) = 7 ≤ s
Fit (S.Of K.Truth) (F.Whole z) = ⊥
Fit (S.Of K.Truth) (F.Truth t) = Unit {0}
Fit (S.Of K.Truth) (F.Stopped s) = 7 ≤ s
Fit (S.Wrong s) f = Unit {0}

sized_fit : (z : ℤ) → Fit (S.Of K.Integer) (sized_of z)
unfolding sized_of
sized_fit z = go (leb (nat_abs z) 2147483647)
  where
    go : (t : Bool) → Fit (S.Of K.Integer) (cond t (F.Whole z) (F.Stopped state.size))
    go true = tt
    go false = omega arith

divided_fit : (b z : ℤ) → Fit (S.Of K.Integer) (divided_of b z)
unfolding divided_of
divided_fit b z = go (eqb (nat_abs b) 0)
  where
    go : (t : Bool) → Fit (S.Of K.Integer) (cond t (F.Stopped state.divisor) (sized_of z))
    go true = omega arith
    go false = sized_fit z

power_fit : (a b : ℤ) → Fit (S.Of K.Integer) (power_of a b)
unfolding power_of
power_fit a (pos n) = sized_fit _
power_fit a (negsuc n) = omega arith

arithmetic_fit : (o : Arithmetic) (a b : ℤ) → Fit (S.Of K.Integer) (arithmetic_of o a b)
arithmetic_fit A.Add a b = sized_fit _
arithmetic_fit A.Subtract a b = sized_fit _
arithmetic_fit A.Multiply a b = sized_fit _
arithmetic_fit A.Divide a b = divided_fit b (quot_z a b)
arithmetic_fit A.Remainder a b = divided_fit b (rem_z a b)
arithmetic_fit A.Modulo a b = divided_fit b (to_sign (rem_z a b) b)
arithmetic_fit A.Power a b = power_fit a b

wrong_fit : (op : Operator) (s : ℕ) (f : Folded) → Fit (wrong_sort op s) f
wrong_fit (O.Arithmetic o) s f = tt
wrong_fit (O.Relation o) s f = tt
wrong_fit (O.Logic o) s f = tt
wrong_fit O.Join s f = tt

integers_fit : (op : Operator) (f g : Folded) → Fit (S.Of K.Integer) f → Fit (S.Of K.Integer) g → Fit (operator_sort op (S.Of K.Integer) (S.Of K.Integer)) (binary_of op f g)
integers_fit (O.Arithmetic o) (F.Whole a) (F.Whole b) h k = arithmetic_fit o a b
integers_fit (O.Arithmetic o) (F.Whole a) (F.Truth u) h k = absurd k
integers_fit (O.Arithmetic o) (F.Whole a) (F.Stopped s) h k = k
integers_fit (O.Arithmetic o) (F.Truth t) g h k = absurd h
integers_fit (O.Arithmetic o) (F.Stopped s) g h k = h
integers_fit (O.Relation o) (F.Whole a) (F.Whole b) h k = tt
integers_fit (O.Relation o) (F.Whole a) (F.Truth u) h k = absurd k
integers_fit (O.Relation o) (F.Whole a) (F.Stopped s) h k = k
integers_fit (O.Relation o) (F.Truth t) g h k = absurd h
integers_fit (O.Relation o) (F.Stopped s) g h k = h
integers_fit (O.Logic o) f g h k = tt
integers_fit O.Join f g h k = tt

after_fit : (o : Logic) (t : Bool) (g : Folded) → Fit (S.Of K.Truth) g → Fit (S.Of K.Truth) (after_truth (O.Logic o) t g)
after_fit o t (F.Whole b) k = absurd k
after_fit o t (F.Truth u) k = tt
after_fit o t (F.Stopped s) k = k

short_fit : (d : Bool) (o : Logic) (t : Bool) (g : Folded) → Fit (S.Of K.Truth) g → Fit (S.Of K.Truth) (cond d (F.Truth (logic_of o t t)) (after_truth (O.Logic o) t g))
short_fit true o t g k = tt
short_fit false o t g k = after_fit o t g k

truths_fit : (op : Operator) (f g : Folded) → Fit (S.Of K.Truth) f → Fit (S.Of K.Truth) g → Fit (operator_sort op (S.Of K.Truth) (S.Of K.Truth)) (binary_of op f g)
truths_fit (O.Arithmetic o) f g h k = tt
truths_fit (O.Relation o) (F.Whole a) g h k = absurd h
truths_fit (O.Relation o) (F.Truth t) (F.Whole b) h k = absurd k
truths_fit (O.Relation o) (F.Truth t) (F.Truth u) h k = tt
truths_fit (O.Relation o) (F.Truth t) (F.Stopped s) h k = k
truths_fit (O.Relation o) (F.Stopped s) g h k = h
truths_fit (O.Logic o) (F.Whole a) g h k = absurd h
truths_fit (O.Logic o) (F.Truth t) g h k = short_fit (decides o t) o t g k
truths_fit (O.Logic o) (F.Stopped s) g h k = h
truths_fit O.Join f g h k = tt

combined_fit : (op : Operator) (x y : Sort) (f g : Folded) → Fit x f → Fit y g → Fit (operator_sort op x y) (binary_of op f g)
combined_fit op (S.Of K.Integer) (S.Of K.Integer) f g h k = integers_fit op f g h k
combined_fit op (S.Of K.Integer) (S.Of K.Truth) f g h k = wrong_fit op 6 _
combined_fit op (S.Of K.Integer) (S.Wrong t) f g h k = wrong_fit op t _
combined_fit op (S.Of K.Truth) (S.Of K.Integer) f g h k = wrong_fit op 6 _
combined_fit op (S.Of K.Truth) (S.Of K.Truth) f g h k = truths_fit op f g h k
combined_fit op (S.Of K.Truth) (S.Wrong t) f g h k = wrong_fit op t _
combined_fit op (S.Wrong s) (S.Of K.Integer) f g h k = wrong_fit op s _
combined_fit op (S.Wrong s) (S.Of K.Truth) f g h k = wrong_fit op s _
combined_fit op (S.Wrong s) (S.Wrong t) f g h k = wrong_fit op (min s t) _

signed_fit : (op : Sign) (x : Sort) (f : Folded) → Fit x f → Fit (sign_sort op x) (unary_of op f)
signed_fit op (S.Wrong s) f h = tt
signed_fit G.Plus (S.Of K.Integer) (F.Whole a) h = sized_fit _
signed_fit G.Minus (S.Of K.Integer) (F.Whole a) h = sized_fit _
signed_fit G.Absolute (S.Of K.Integer) (F.Whole a) h = sized_fit _
signed_fit G.Plus (S.Of K.Integer) (F.Truth t) h = absurd h
signed_fit G.Minus (S.Of K.Integer) (F.Truth t) h = absurd h
signed_fit G.Absolute (S.Of K.Integer) (F.Truth t) h = absurd h
signed_fit G.Plus (S.Of K.Integer) (F.Stopped s) h = h
signed_fit G.Minus (S.Of K.Integer) (F.Stopped s) h = h
signed_fit G.Absolute (S.Of K.Integer) (F.Stopped s) h = h
signed_fit G.Not (S.Of K.Integer) f h = tt
signed_fit G.Plus (S.Of K.Truth) f h = tt
signed_fit G.Minus (S.Of K.Truth) f h = tt
signed_fit G.Absolute (S.Of K.Truth) f h = tt
signed_fit G.Not (S.Of K.Truth) (F.Whole a) h = absurd h
signed_fit G.Not (S.Of K.Truth) (F.Truth t) h = tt
signed_fit G.Not (S.Of K.Truth) (F.Stopped s) h = h

-- ---- expressions

abbrev pub FitOutcome : Outcome → Type 0
FitOutcome x = Fit x.sort x.folded

choose_fit : (t : Bool) (x y : Outcome) → FitOutcome x → FitOutcome y → FitOutcome (cond t x y)
choose_fit true x y h k = h
choose_fit false x y h k = k

pub operand_fit : (v : Value) → FitOutcome (operand_of v)
operand_fit (Number z) = tt
operand_fit (Truth t) = tt
operand_fit (Range low high) = tt
operand_fit Truths = tt
operand_fit (Without s) = tt

literal_fit : (s : List ℕ) → FitOutcome (literal_leaf s)
literal_fit s = let e = literal_sized s in subst (Fit (S.Of K.Integer)) (sym e.1) (sized_fit (pos e.0))

pub literal_by_fit : (kind : ℕ) (bytes : List ℕ) → FitOutcome (literal_by kind bytes)
unfolding literal_by
literal_by_fit kind bytes = choose_fit (eqb kind 3) (literal_leaf bytes) (wrong_leaf state.unfolded) (literal_fit bytes) tt

module _ (name literal : ℕ → Outcome) (kind : ℕ → ℕ) (n : (i : ℕ) → FitOutcome (name i)) (l : (i : ℕ) → FitOutcome (literal i)) where
  row_fit : (r : Row) (x y : Outcome) → FitOutcome x → FitOutcome y → FitOutcome (row_outcome name literal kind r x y)
  unfolding row_outcome
  row_fit r x y h k =
      let o = operator_of (kind r.operator) in
      let i = sign_of (kind r.operator) in
      choose_fit (eqb r.form 24) (name r.first) _ (n r.first)
      (choose_fit (eqb r.form 27) (literal r.first) _ (l r.first)
      (choose_fit (eqb r.form 28) (signed_of i x) _ (signed_fit i x.sort x.folded h)
      (choose_fit (eqb r.form 29) (combined_of o x y) (wrong_leaf state.unfolded) (combined_fit o x.sort y.sort x.folded y.folded h k) tt)))

  pub outcome_fit : (f : ℕ) (rs : List Row) → FitOutcome (outcome_in name literal kind f rs)
  unfolding outcome_in
  outcome_fit zero rs = tt
  outcome_fit (suc f) [] = tt
  outcome_fit (suc f) (r ∷ rs) = row_fit r (outcome_in name literal kind f rs) (outcome_in name literal kind f (behind rs)) (outcome_fit f rs) (outcome_fit f (behind rs))

pub valued_fit : (p : Piece) (used : Element → Value) (rs : List Row) → FitOutcome (valued p used rs)
unfolding valued
valued_fit p used rs = outcome_fit _ _ _ (λ i. operand_fit (used (at p i))) (λ i. literal_by_fit (at p i).kind (at p i).bytes) _ rs

-- ---- items: one with a state in its sort is in it, any other has its value or is in a later state

abbrev pub Ends : Sort → Value → Type 0
Ends (S.Of K.Integer) v = Later v
Ends (S.Of K.Truth) v = Later v
Ends (S.Wrong t) v = v ≡ Without t

held_later : (low high z : ℤ) → Later (held_by low high z)
held_later low high z = go (le_z low z && le_z z high)
  where
    go : (t : Bool) → Later (cond t (Number z) (Without state.range))
    go true = tt
    go false = omega arith

constant_by : (mark : Value) (x : Sort) (f : Folded) → Fit x f → Ends (operator_sort (O.Relation Equal) (mark_sort mark) x) (value_in mark (settle (operator_sort (O.Relation Equal) (mark_sort mark) x) f))
constant_by (Number y) (S.Of K.Integer) f h = refl
constant_by (Number y) (S.Of K.Truth) f h = refl
constant_by (Number y) (S.Wrong t) f h = refl
constant_by (Truth y) (S.Of K.Integer) f h = refl
constant_by (Truth y) (S.Of K.Truth) f h = refl
constant_by (Truth y) (S.Wrong t) f h = refl
constant_by (Range low high) (S.Of K.Integer) (F.Whole z) h = held_later low high z
constant_by (Range low high) (S.Of K.Integer) (F.Truth t) h = absurd h
constant_by (Range low high) (S.Of K.Integer) (F.Stopped s) h = h
constant_by (Range low high) (S.Of K.Truth) f h = refl
constant_by (Range low high) (S.Wrong t) f h = refl
constant_by Truths (S.Of K.Integer) f h = refl
constant_by Truths (S.Of K.Truth) (F.Whole z) h = absurd h
constant_by Truths (S.Of K.Truth) (F.Truth t) h = tt
constant_by Truths (S.Of K.Truth) (F.Stopped s) h = h
constant_by Truths (S.Wrong t) f h = refl
constant_by (Without s) (S.Of K.Integer) f h = refl
constant_by (Without s) (S.Of K.Truth) f h = refl
constant_by (Without s) (S.Wrong t) f h = refl

pub constant_ends : (mark : Value) (x : Outcome) → FitOutcome x → Ends (operator_sort (O.Relation Equal) (mark_sort mark) x.sort) (constant_of mark x)
unfolding constant_of
constant_ends mark x h = constant_by mark x.sort x.folded h

pub subtype_ends : (mark : Value) → Ends (mark_sort mark) (subtype_of mark)
subtype_ends (Number z) = refl
subtype_ends (Truth t) = refl
subtype_ends (Range low high) = tt
subtype_ends Truths = tt
subtype_ends (Without s) = refl

choose_later : (t : Bool) (v u : Value) → Later v → Later u → Later (cond t v u)
choose_later true v u h k = h
choose_later false v u h k = k

inside_later : (mark : Value) (low high : ℤ) → Later (inside_of mark low high)
inside_later (Number z) low high = omega arith
inside_later (Truth t) low high = omega arith
inside_later (Range least most) low high = choose_later (le_z least low && le_z high most) (Range low high) (Without state.range) tt (omega arith)
inside_later Truths low high = omega arith
inside_later (Without s) low high = omega arith

directed_later : (mark : Value) (down : Bool) (x y : ℤ) → Later (directed mark down x y)
directed_later mark false x y = choose_later (lt_z y x) (Range x y) (inside_of mark x y) tt (inside_later mark x y)
directed_later mark true x y = choose_later (lt_z x y) (Range y x) (inside_of mark y x) tt (inside_later mark y x)

bounds_later : (mark : Value) (down : Bool) (f g : Folded) → Fit (S.Of K.Integer) f → Fit (S.Of K.Integer) g → Later (bounds_in mark down f g)
bounds_later mark down (F.Whole x) (F.Whole y) h k = directed_later mark down x y
bounds_later mark down (F.Whole x) (F.Truth u) h k = absurd k
bounds_later mark down (F.Whole x) (F.Stopped s) h k = k
bounds_later mark down (F.Truth t) g h k = absurd h
bounds_later mark down (F.Stopped s) g h k = h

-- a sum is of integers
abbrev Summed : Sort → Sort → Sort → Type 0
Summed (S.Of K.Integer) x y = (x ≡ (S.Of K.Integer)) × (y ≡ (S.Of K.Integer))
Summed (S.Of K.Truth) x y = ⊥
Summed (S.Wrong s) x y = Unit {0}

summed : (o : Arithmetic) (x y : Sort) → Summed (operator_sort (O.Arithmetic o) x y) x y
summed o (S.Of K.Integer) (S.Of K.Integer) = (refl, refl)
summed o (S.Of K.Integer) (S.Of K.Truth) = tt
summed o (S.Of K.Integer) (S.Wrong t) = tt
summed o (S.Of K.Truth) (S.Of K.Integer) = tt
summed o (S.Of K.Truth) (S.Of K.Truth) = tt
summed o (S.Of K.Truth) (S.Wrong t) = tt
summed o (S.Wrong s) (S.Of K.Integer) = tt
summed o (S.Wrong s) (S.Of K.Truth) = tt
summed o (S.Wrong s) (S.Wrong t) = tt

bounds_by : (mark : Value) (down : Bool) (m x y r : Sort) (f g : Folded) → Summed r m (operator_sort (O.Arithmetic A.Add) x y) → Fit x f → Fit y g → Ends r (bounds_in mark down (settle r f) g)
bounds_by mark down m x y (S.Of K.Integer) f g e h k =
    let i = subst (λ (z : Sort). Summed z x y) e.1 (summed A.Add x y) in
    bounds_later mark down f g (subst (λ (z : Sort). Fit z f) i.0 h) (subst (λ (z : Sort). Fit z g) i.1 k)
bounds_by mark down m x y (S.Of K.Truth) f g e h k = absurd e
bounds_by mark down m x y (S.Wrong t) f g e h k = refl

pub ranged_ends : (mark : Value) (a b : Outcome) (down : Bool) → FitOutcome a → FitOutcome b
    → Ends (operator_sort (O.Arithmetic A.Add) (mark_sort mark) (operator_sort (O.Arithmetic A.Add) a.sort b.sort)) (ranged_of mark a b down)
unfolding ranged_of
ranged_ends mark a b down h k =
    let bounds = operator_sort (O.Arithmetic A.Add) a.sort b.sort in
    bounds_by mark down (mark_sort mark) a.sort b.sort (operator_sort (O.Arithmetic A.Add) (mark_sort mark) bounds) a.folded b.folded (summed A.Add (mark_sort mark) bounds) h k
