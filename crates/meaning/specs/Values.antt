-- What an item comes to that meets none of the states 1 to 6: its value, 0, or one of 7 to 10, as 01's section "Pieces, items, states" has it.
-- No clause speaks of what 3 to 6 rule out. Assumes nothing: these are definitions.
use Rattle.std.specs.Prelude.{◌≡◌, Bool, true, false, cond, not, ◌&&◌, ℕ, ℤ, pos, nat_abs, neg_ℤ}
use Rattle.std.specs.Int.Signed.{lt_z, le_z}
use Rattle.integers.specs.Integers.{sized_of, arithmetic_of}
use Rattle.integers.specs.declared.Arithmetic.{Arithmetic}
use Rattle.integers.specs.declared.Folded.{Folded}
use Rattle.integers.specs.declared.Folded.TheVariants.{Whole, Truth, Stopped}
use Rattle.literals.specs.Literals.{literal_of}
use Rattle.folding.specs.Operators.{relation_of, truth_place, logic_of, decides}
use Rattle.folding.specs.declared.Relation.{Relation}
use Rattle.folding.specs.declared.Logic.{Logic}
use Rattle.folding.specs.declared.Operator.{Operator}
use Rattle.folding.specs.declared.Sign.{Sign}
use Rattle.states.specs.States as state
use Rattle.values.specs.declared.Value.{Value}
use Rattle.meaning.specs.Elements.{Element}
use Rattle.meaning.specs.ItemForms.{Expression, name, literal, unary, binary, ItemForm, constant, subtype, ranged}
use Rattle.places.specs.Kinds.{integer_literal_kind}

-- ---- expressions: "an integer, a truth, or the state that stopped it"

-- the left side decides, and the right one is skipped
abbrev pub skips : Operator → Bool → Bool
skips (Operator.Arithmetic o) t = false
skips (Operator.Relation o) t = false
skips (Operator.Logic o) t = decides o t
skips Operator.Join t = false

pub data Folds (used : Element → Value) : Expression → Folded → Type 0 where
  -- a name used, and an integer literal; 9, "a literal .. beyond 2147483647 in size"
  number_used : {x : Element} {z : ℤ} → used x ≡ Value.Number z → Folds used (name x) (Whole z)
  truth_used : {x : Element} {t : Bool} → used x ≡ Value.Truth t → Folds used (name x) (Truth t)
  spelled : {x : Element} → x.kind ≡ integer_literal_kind → Folds used (literal x) (literal_of x.bytes)
  -- one operand; 9, "or result"
  stops : {o : Sign} {x : Expression} {s : ℕ} → Folds used x (Stopped s) → Folds used (unary o x) (Stopped s)
  plus : {x : Expression} {a : ℤ} → Folds used x (Whole a) → Folds used (unary Sign.Plus x) (sized_of a)
  minus : {x : Expression} {a : ℤ} → Folds used x (Whole a) → Folds used (unary Sign.Minus x) (sized_of (neg_ℤ a))
  absolute : {x : Expression} {a : ℤ} → Folds used x (Whole a) → Folds used (unary Sign.Absolute x) (sized_of (pos (nat_abs a)))
  opposite : {x : Expression} {t : Bool} → Folds used x (Truth t) → Folds used (unary Sign.Not x) (Truth (not t))
  -- two: "the first of 7 to 9 met, left operand, right operand, operator", but "`and`, `nand`, `or`, `nor` skip the right side where the left decides"
  left_stops : {o : Operator} {x y : Expression} {s : ℕ} → Folds used x (Stopped s) → Folds used (binary o x y) (Stopped s)
  skipped : {o : Logic} {x y : Expression} {t : Bool} → Folds used x (Truth t) → decides o t ≡ true → Folds used (binary (Operator.Logic o) x y) (Truth (logic_of o t t))
  right_stops : {o : Operator} {x y : Expression} {a : ℤ} {s : ℕ} → Folds used x (Whole a) → Folds used y (Stopped s) → Folds used (binary o x y) (Stopped s)
  right_stops_too : {o : Operator} {x y : Expression} {t : Bool} {s : ℕ} → Folds used x (Truth t) → skips o t ≡ false → Folds used y (Stopped s)
      → Folds used (binary o x y) (Stopped s)
  computed : {o : Arithmetic} {x y : Expression} {a b : ℤ} → Folds used x (Whole a) → Folds used y (Whole b) → Folds used (binary (Operator.Arithmetic o) x y) (arithmetic_of o a b)
  related : {o : Relation} {x y : Expression} {a b : ℤ} → Folds used x (Whole a) → Folds used y (Whole b) → Folds used (binary (Operator.Relation o) x y) (Truth (relation_of o a b))
  -- all six relations hold on two truths, false below true (000, 9.2.3)
  truths_related : {o : Relation} {x y : Expression} {t u : Bool} → Folds used x (Truth t) → Folds used y (Truth u)
      → Folds used (binary (Operator.Relation o) x y) (Truth (relation_of o (truth_place t) (truth_place u)))
  connected : {o : Logic} {x y : Expression} {t u : Bool} → Folds used x (Truth t) → decides o t ≡ false → Folds used y (Truth u)
      → Folds used (binary (Operator.Logic o) x y) (Truth (logic_of o t u))

-- ---- items

-- 10, "outside its mark's range"
abbrev pub held_in : ℤ → ℤ → ℤ → Value
held_in low high z = cond (le_z low z && le_z z high) (Value.Number z) (Value.Without state.range)

-- "A low end above the high one is a null range, state 0"; 10, "a non-null subtype range outside its parent's"
abbrev pub range_in : ℤ → ℤ → ℤ → ℤ → Value
range_in least most low high = cond (lt_z high low) (Value.Range low high) (cond (le_z least low && le_z high most) (Value.Range low high) (Value.Without state.range))

pub data Gives (used : Element → Value) : ItemForm → Value → Type 0 where
  -- "When a bound or an initial value comes back without a number, the item .. ends there in that state."
  value_stops : {m : Element} {x : Expression} {s : ℕ} → Folds used x (Stopped s) → Gives used (constant m x) (Value.Without s)
  first_stops : {m : Element} {x y : Expression} {down : Bool} {s : ℕ} → Folds used x (Stopped s) → Gives used (ranged m x down y) (Value.Without s)
  second_stops : {m : Element} {x y : Expression} {down : Bool} {a : ℤ} {s : ℕ} → Folds used x (Whole a) → Folds used y (Stopped s) → Gives used (ranged m x down y) (Value.Without s)
  -- 0, "a number, a truth, or for a subtype its low and high end"
  number_held : {m : Element} {x : Expression} {low high z : ℤ} → used m ≡ Value.Range low high → Folds used x (Whole z) → Gives used (constant m x) (held_in low high z)
  truth_held : {m : Element} {x : Expression} {t : Bool} → used m ≡ Value.Truths → Folds used x (Truth t) → Gives used (constant m x) (Value.Truth t)
  same_range : {m : Element} {low high : ℤ} → used m ≡ Value.Range low high → Gives used (subtype m) (Value.Range low high)
  boolean : {m : Element} → used m ≡ Value.Truths → Gives used (subtype m) Value.Truths
  upward : {m : Element} {x y : Expression} {least most a b : ℤ} → used m ≡ Value.Range least most → Folds used x (Whole a) → Folds used y (Whole b)
      → Gives used (ranged m x false y) (range_in least most a b)
  downward : {m : Element} {x y : Expression} {least most a b : ℤ} → used m ≡ Value.Range least most → Folds used x (Whole a) → Folds used y (Whole b)
      → Gives used (ranged m x true y) (range_in least most b a)
