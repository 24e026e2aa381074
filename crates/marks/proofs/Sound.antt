-- What folding keeps: what holds of every number within 01's size, and of the states that a sort, a folding and an item may be in, holds of all
-- that operators, marks and names make of it. Two such things are kept: numbers are of 32 bits and no state is 0 (`small`), and the states
-- are those of 01's table (`late`). Assumes nothing.
use mathlib.Core.Path.{◌≡◌, refl, sym, subst}
use mathlib.Core.Bool.{Bool, true, false, cond}
use mathlib.Core.List.{List}
use Prim.Native.Nat.{ℕ, zero, suc, ◌≤◌, min}
use native.Mathlib.Omega.{arith}
use lib.Dec.{leb, eqb}
use lib.IntN.{ℤ, pos, negsuc, nat_abs}
use lib.Signed.{quot_z, rem_z}
use mir.Syntax.{w32}
use mir.Val.{SFits}
use Rattle.integers.specs.Integers.{sized_of, divided_of, to_sign, power_of, arithmetic_of, largest}
use Rattle.integers.proofs.Ints.{narrow_fits}
use Rattle.integers.specs.declared.Folded.{Folded}
use Rattle.integers.specs.declared.Folded.TheVariants as F
use Rattle.integers.specs.declared.Arithmetic.{Arithmetic}
use Rattle.integers.specs.declared.Arithmetic.TheVariants as A
use Rattle.folding.specs.declared.Logic.{Logic}
use Rattle.folding.specs.declared.Operator.{Operator}
use Rattle.folding.specs.declared.Operator.TheVariants as O
use Rattle.folding.specs.declared.Sign.{Sign}
use Rattle.folding.specs.declared.Sign.TheVariants as G
use Rattle.folding.specs.declared.Sort.{Sort}
use Rattle.folding.specs.declared.Sort.TheVariants as S
use Rattle.folding.specs.declared.Outcome.{Outcome}
use Rattle.folding.specs.Operators.{decides, logic_of}
use Rattle.folding.specs.code.Folding.{on_wholes, on_truths, after_whole, after_truth, beside_truth, binary_of, unary_of}
use Rattle.folding.specs.code.Outcomes.{wrong_sort, operator_sort, sign_sort, combined_of, signed_of, settle}
use Rattle.operands.specs.code.Leaves.{wrong_leaf, literal_leaf}
use Rattle.operands.proofs.Literal.{literal_sized}
use Rattle.values.specs.declared.Value.{Value}
use Rattle.values.specs.declared.Value.TheVariants.{Number, Truth, Range, Truths, Without}
use Rattle.values.specs.Values.{language_value, lean_of}
use Rattle.states.specs.States as state
use Rattle.integers.specs.declared.Kind.{Kind}
use Rattle.marks.specs.code.Marks.{operand_of, mark_sort}

-- what is kept: of each number, of a state in a sort, of one that stops a folding and of one that an item ends in
pub record Keeps : Type 1 where
  pub number : ℤ → Type 0
  pub sorted : ℕ → Type 0
  pub stopped : ℕ → Type 0
  pub ended : ℕ → Type 0
  pub sized : (z : ℤ) → leb (nat_abs z) largest ≡ true → number z
  pub three : sorted state.unfolded
  pub four : sorted state.unknown
  pub five : sorted state.leans
  pub six : sorted state.kind
  pub smaller : (s t : ℕ) → sorted s → sorted t → sorted (min s t)
  pub divisor : stopped state.divisor
  pub exponent : stopped state.exponent
  pub size : stopped state.size
  pub sort_stops : (s : ℕ) → sorted s → stopped s
  pub stop_ends : (s : ℕ) → stopped s → ended s
  pub outside : ended state.range

-- numbers are of 32 bits, and no state is 0, which is that of what has a number
abbrev pub small : Keeps
small = record {
  number = SFits w32;
  sorted = λ s. 1 ≤ s;
  stopped = λ s. 1 ≤ s;
  ended = λ s. 1 ≤ s;
  sized = narrow_fits;
  three = omega arith;
  four = omega arith;
  five = omega arith;
  six = omega arith;
  smaller = λ s t h k. omega arith;
  divisor = omega arith;
  exponent = omega arith;
  size = omega arith;
  sort_stops = λ s h. h;
  stop_ends = λ s h. h;
  outside = omega arith;
}

-- a state from 3 on to the last
abbrev pub Between : ℕ → ℕ → Type 0
Between last s = (state.unfolded ≤ s) × (s ≤ last)

pub wider : (last more s : ℕ) → last ≤ more → Between last s → Between more s
wider last more s l h = let a = h.1 in (h.0, omega arith)

pub smaller_between : (s t : ℕ) → Between state.kind s → Between state.kind t → Between state.kind (min s t)
smaller_between s t h k = let a = h.0 in let b = h.1 in let c = k.0 in (omega arith, omega arith)

-- the states of 01's table: 3 to 6 in a sort, 3 to 9 in a folding, 3 to 10 in an item that a form fits and whose name is claimed once
abbrev pub late : Keeps
late = record {
  number = λ z. Unit {0};
  sorted = Between state.kind;
  stopped = Between state.size;
  ended = Between state.range;
  sized = λ z e. tt;
  three = (omega arith, omega arith);
  four = (omega arith, omega arith);
  five = (omega arith, omega arith);
  six = (omega arith, omega arith);
  smaller = smaller_between;
  divisor = (omega arith, omega arith);
  exponent = (omega arith, omega arith);
  size = (omega arith, omega arith);
  sort_stops = λ s h. wider state.kind state.size s (omega arith) h;
  stop_ends = λ s h. wider state.size state.range s (omega arith) h;
  outside = (omega arith, omega arith);
}

module _ (K : Keeps) where
  abbrev pub SoundSort : Sort → Type 0
  SoundSort (S.Of Kind.Integer) = Unit {0}
  SoundSort (S.Of Kind.Truth) = Unit {0}
  SoundSort (S.Wrong s) = K.sorted s

  abbrev pub SoundFolded : Folded → Type 0
  SoundFolded (F.Whole z) = K.number z
  SoundFolded (F.Truth t) = Unit {0}
  SoundFolded (F.Stopped s) = K.stopped s

  pub record SoundOutcome (x : Outcome) : Type 0 where
    pub of_sort : SoundSort x.sort
    pub of_folded : SoundFolded x.folded

  -- what a name comes to where it is used
  abbrev pub Sound : Value → Type 0
  Sound (Number z) = K.number z
  Sound (Truth t) = Unit {0}
  Sound (Range low high) = K.number low × K.number high
  Sound Truths = Unit {0}
  Sound (Without s) = K.sorted s

  stops_three : K.stopped state.unfolded
  stops_three = K.sort_stops state.unfolded K.three

  stops_six : K.stopped state.kind
  stops_six = K.sort_stops state.kind K.six

  -- ---- folding

  pub sized_sound : (z : ℤ) → SoundFolded (sized_of z)
  unfolding sized_of
  sized_sound z = go (leb (nat_abs z) largest) refl
    where
      go : (t : Bool) → leb (nat_abs z) largest ≡ t → SoundFolded (cond t (F.Whole z) (F.Stopped state.size))
      go true e = K.sized z e
      go false e = K.size

  divided_sound : (b z : ℤ) → SoundFolded (divided_of b z)
  unfolding divided_of
  divided_sound b z = go (eqb (nat_abs b) 0)
    where
      go : (t : Bool) → SoundFolded (cond t (F.Stopped state.divisor) (sized_of z))
      go true = K.divisor
      go false = sized_sound z

  power_sound : (a b : ℤ) → SoundFolded (power_of a b)
  unfolding power_of
  power_sound a (pos n) = sized_sound _
  power_sound a (negsuc n) = K.exponent

  arithmetic_sound : (o : Arithmetic) (a b : ℤ) → SoundFolded (arithmetic_of o a b)
  arithmetic_sound A.Add a b = sized_sound _
  arithmetic_sound A.Subtract a b = sized_sound _
  arithmetic_sound A.Multiply a b = sized_sound _
  arithmetic_sound A.Divide a b = divided_sound b (quot_z a b)
  arithmetic_sound A.Remainder a b = divided_sound b (rem_z a b)
  arithmetic_sound A.Modulo a b = divided_sound b (to_sign (rem_z a b) b)
  arithmetic_sound A.Power a b = power_sound a b

  wholes_sound : (op : Operator) (a b : ℤ) → SoundFolded (on_wholes op a b)
  wholes_sound (O.Arithmetic o) a b = arithmetic_sound o a b
  wholes_sound (O.Relation o) a b = tt
  wholes_sound (O.Logic o) a b = stops_six
  wholes_sound O.Join a b = stops_three

  truths_sound : (op : Operator) (t u : Bool) → SoundFolded (on_truths op t u)
  truths_sound (O.Arithmetic o) t u = stops_six
  truths_sound (O.Relation o) t u = tt
  truths_sound (O.Logic o) t u = tt
  truths_sound O.Join t u = stops_three

  after_truth_sound : (op : Operator) (t : Bool) (y : Folded) → SoundFolded y → SoundFolded (after_truth op t y)
  after_truth_sound op t (F.Whole b) h = stops_six
  after_truth_sound op t (F.Truth u) h = truths_sound op t u
  after_truth_sound op t (F.Stopped s) h = h

  short_sound : (d : Bool) (o : Logic) (t : Bool) (y : Folded) → SoundFolded y → SoundFolded (cond d (F.Truth (logic_of o t t)) (after_truth (O.Logic o) t y))
  short_sound true o t y h = tt
  short_sound false o t y h = after_truth_sound (O.Logic o) t y h

  beside_truth_sound : (op : Operator) (t : Bool) (y : Folded) → SoundFolded y → SoundFolded (beside_truth op t y)
  beside_truth_sound (O.Arithmetic o) t y h = after_truth_sound (O.Arithmetic o) t y h
  beside_truth_sound (O.Relation o) t y h = after_truth_sound (O.Relation o) t y h
  beside_truth_sound (O.Logic o) t y h = short_sound (decides o t) o t y h
  beside_truth_sound O.Join t y h = after_truth_sound O.Join t y h

  after_whole_sound : (op : Operator) (a : ℤ) (y : Folded) → SoundFolded y → SoundFolded (after_whole op a y)
  after_whole_sound op a (F.Whole b) h = wholes_sound op a b
  after_whole_sound op a (F.Truth u) h = stops_six
  after_whole_sound op a (F.Stopped s) h = h

  binary_sound : (op : Operator) (x y : Folded) → SoundFolded x → SoundFolded y → SoundFolded (binary_of op x y)
  binary_sound op (F.Whole a) y h k = after_whole_sound op a y k
  binary_sound op (F.Truth t) y h k = beside_truth_sound op t y k
  binary_sound op (F.Stopped s) y h k = h

  unary_sound : (op : Sign) (x : Folded) → SoundFolded x → SoundFolded (unary_of op x)
  unary_sound G.Plus (F.Whole a) h = sized_sound _
  unary_sound G.Minus (F.Whole a) h = sized_sound _
  unary_sound G.Absolute (F.Whole a) h = sized_sound _
  unary_sound G.Not (F.Whole a) h = stops_six
  unary_sound G.Plus (F.Truth t) h = stops_six
  unary_sound G.Minus (F.Truth t) h = stops_six
  unary_sound G.Absolute (F.Truth t) h = stops_six
  unary_sound G.Not (F.Truth t) h = tt
  unary_sound op (F.Stopped s) h = h

  -- ---- sorts

  wrong_sound : (op : Operator) (s : ℕ) → K.sorted s → SoundSort (wrong_sort op s)
  wrong_sound (O.Arithmetic o) s h = h
  wrong_sound (O.Relation o) s h = h
  wrong_sound (O.Logic o) s h = h
  wrong_sound O.Join s h = K.smaller state.unfolded s K.three h

  pub sort_sound : (op : Operator) (x y : Sort) → SoundSort x → SoundSort y → SoundSort (operator_sort op x y)
  sort_sound (O.Arithmetic o) (S.Of Kind.Integer) (S.Of Kind.Integer) h k = tt
  sort_sound (O.Relation o) (S.Of Kind.Integer) (S.Of Kind.Integer) h k = tt
  sort_sound (O.Logic o) (S.Of Kind.Integer) (S.Of Kind.Integer) h k = K.six
  sort_sound O.Join (S.Of Kind.Integer) (S.Of Kind.Integer) h k = K.three
  sort_sound op (S.Of Kind.Integer) (S.Of Kind.Truth) h k = wrong_sound op state.kind K.six
  sort_sound op (S.Of Kind.Integer) (S.Wrong t) h k = wrong_sound op t k
  sort_sound op (S.Of Kind.Truth) (S.Of Kind.Integer) h k = wrong_sound op state.kind K.six
  sort_sound (O.Arithmetic o) (S.Of Kind.Truth) (S.Of Kind.Truth) h k = K.six
  sort_sound (O.Relation o) (S.Of Kind.Truth) (S.Of Kind.Truth) h k = tt
  sort_sound (O.Logic o) (S.Of Kind.Truth) (S.Of Kind.Truth) h k = tt
  sort_sound O.Join (S.Of Kind.Truth) (S.Of Kind.Truth) h k = K.three
  sort_sound op (S.Of Kind.Truth) (S.Wrong t) h k = wrong_sound op t k
  sort_sound op (S.Wrong s) (S.Of Kind.Integer) h k = wrong_sound op s h
  sort_sound op (S.Wrong s) (S.Of Kind.Truth) h k = wrong_sound op s h
  sort_sound op (S.Wrong s) (S.Wrong t) h k = wrong_sound op (min s t) (K.smaller s t h k)

  sign_sound : (op : Sign) (x : Sort) → SoundSort x → SoundSort (sign_sort op x)
  sign_sound op (S.Wrong s) h = h
  sign_sound G.Plus (S.Of Kind.Integer) h = tt
  sign_sound G.Minus (S.Of Kind.Integer) h = tt
  sign_sound G.Absolute (S.Of Kind.Integer) h = tt
  sign_sound G.Not (S.Of Kind.Integer) h = K.six
  sign_sound G.Plus (S.Of Kind.Truth) h = K.six
  sign_sound G.Minus (S.Of Kind.Truth) h = K.six
  sign_sound G.Absolute (S.Of Kind.Truth) h = K.six
  sign_sound G.Not (S.Of Kind.Truth) h = tt

  pub settle_sound : (x : Sort) (f : Folded) → SoundSort x → SoundFolded f → SoundFolded (settle x f)
  settle_sound (S.Of Kind.Integer) f h k = k
  settle_sound (S.Of Kind.Truth) f h k = k
  settle_sound (S.Wrong s) f h k = K.sort_stops s h

  -- ---- outcomes

  pub wrong_leaf_sound : (s : ℕ) → K.sorted s → SoundOutcome (wrong_leaf s)
  wrong_leaf_sound s h = record { of_sort = h; of_folded = K.sort_stops s h }

  pub literal_sound : (s : List ℕ) → SoundOutcome (literal_leaf s)
  literal_sound s = let e = literal_sized s in record { of_sort = tt; of_folded = subst SoundFolded (sym e.1) (sized_sound (pos e.0)) }

  pub combined_sound : (op : Operator) (x y : Outcome) → SoundOutcome x → SoundOutcome y → SoundOutcome (combined_of op x y)
  combined_sound op x y h k = record {
    of_sort = sort_sound op x.sort y.sort h.of_sort k.of_sort;
    of_folded = binary_sound op x.folded y.folded h.of_folded k.of_folded;
  }

  pub signed_sound : (op : Sign) (x : Outcome) → SoundOutcome x → SoundOutcome (signed_of op x)
  signed_sound op x h = record { of_sort = sign_sound op x.sort h.of_sort; of_folded = unary_sound op x.folded h.of_folded }

  -- ---- values

  pub operand_sound : (v : Value) → Sound v → SoundOutcome (operand_of v)
  operand_sound (Number z) h = record { of_sort = tt; of_folded = h }
  operand_sound (Truth t) h = record { of_sort = tt; of_folded = tt }
  operand_sound (Range low high) h = wrong_leaf_sound state.kind K.six
  operand_sound Truths h = wrong_leaf_sound state.kind K.six
  operand_sound (Without s) h = wrong_leaf_sound s h

  pub mark_sound : (v : Value) → Sound v → SoundSort (mark_sort v)
  mark_sound (Number z) h = K.six
  mark_sound (Truth t) h = K.six
  mark_sound (Range low high) h = tt
  mark_sound Truths h = tt
  mark_sound (Without s) h = h

  pub choose_sound : (t : Bool) (v u : Value) → Sound v → Sound u → Sound (cond t v u)
  choose_sound true v u h k = h
  choose_sound false v u h k = k

  -- who leans on a value has it, or is in state 5
  pub lean_sound : (v : Value) → Sound v → Sound (lean_of v)
  lean_sound (Number z) h = h
  lean_sound (Truth t) h = tt
  lean_sound (Range low high) h = h
  lean_sound Truths h = tt
  lean_sound (Without s) h = K.five

-- what a name comes to by the language
pub language_sound : (k : ℕ) → Sound small (language_value k)
unfolding language_value
language_sound zero = omega arith
language_sound (suc zero) = (record { sfits = omega arith }, record { sfits = omega arith })
language_sound (suc (suc zero)) = (record { sfits = omega arith }, record { sfits = omega arith })
language_sound (suc (suc (suc zero))) = (record { sfits = omega arith }, record { sfits = omega arith })
language_sound (suc (suc (suc (suc zero)))) = tt
language_sound (suc (suc (suc (suc (suc zero))))) = tt
language_sound (suc (suc (suc (suc (suc (suc zero)))))) = tt
language_sound (suc (suc (suc (suc (suc (suc (suc k))))))) = omega arith
