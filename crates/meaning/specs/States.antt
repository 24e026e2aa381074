-- When each of the states 1 to 6 is met, line by line of 01's table ("Pieces, items, states"), by what an item is and what the names used in
-- it come to: nothing here folds. Assumes nothing: these are definitions.
use Rattle.std.specs.Prelude.{ℕ, ◌≤◌, ◌≡◌, Bool, true, cond, List, eqb, ℤ}
use Rattle.integers.specs.declared.Arithmetic.{Arithmetic}
use Rattle.folding.specs.declared.Relation.{Relation}
use Rattle.folding.specs.declared.Logic.{Logic}
use Rattle.folding.specs.declared.Operator.{Operator}
use Rattle.folding.specs.declared.Sign.{Sign}
use Rattle.places.specs.Kinds.{integer_literal_kind}
use Rattle.states.specs.States as state
use Rattle.values.specs.declared.Value.{Value}
use Rattle.values.specs.declared.Value.TheVariants.{Number, Truth, Range, Truths, Without}
use Rattle.meaning.specs.Elements.{Element, Piece}
use Rattle.meaning.specs.Names.{own_doubled, Done, use_of}
use Rattle.meaning.specs.ItemForms.{Expression, name, literal, unfolded, unary, binary, ItemForm, constant, subtype, ranged, HasForm}

-- ---- integer or truth: what the last operator, the name or the literal says alone

pub data Kind : Type 0 where
  integer : Kind
  truth : Kind
  neither : Kind

abbrev pub name_kind : Value → Kind
name_kind (Number z) = integer
name_kind (Truth t) = truth
name_kind (Range low high) = neither
name_kind Truths = neither
name_kind (Without s) = neither

abbrev pub sign_kind : Sign → Kind
sign_kind Sign.Plus = integer
sign_kind Sign.Minus = integer
sign_kind Sign.Absolute = integer
sign_kind Sign.Not = truth

abbrev pub operator_kind : Operator → Kind
operator_kind (Operator.Arithmetic o) = integer
operator_kind (Operator.Relation o) = truth
operator_kind (Operator.Logic o) = truth
operator_kind Operator.Join = neither

-- what a name used comes to is given as `used`
module _ (used : Element → Value) where
  abbrev pub expression_kind : Expression → Kind
  expression_kind (name x) = name_kind (used x)
  expression_kind (literal x) = cond (eqb x.kind integer_literal_kind) integer neither
  expression_kind unfolded = neither
  expression_kind (unary o x) = sign_kind o
  expression_kind (binary o x y) = operator_kind o

-- ---- the states that an expression meets

pub data Meets (used : Element → Value) : Expression → ℕ → Type 0 where
  -- 3 unfolded: "a real, character or string literal, `&`, form 25 or 26"
  other_literal : {x : Element} → (x.kind ≡ integer_literal_kind → ⊥) → Meets used (literal x) state.unfolded
  join : {x y : Expression} → Meets used (binary Operator.Join x y) state.unfolded
  other_form : Meets used unfolded state.unfolded
  -- 4 unknown, "a name used with no claim above"; 5 leans, "a name used that is doubled, or whose item isn't in state 0"
  without : {x : Element} {s : ℕ} → used x ≡ Without s → Meets used (name x) s
  -- 6 kind: "integer and truth mixed"
  mixed_left : {o : Relation} {x y : Expression} → expression_kind used x ≡ integer → expression_kind used y ≡ truth → Meets used (binary (Operator.Relation o) x y) state.kind
  mixed_right : {o : Relation} {x y : Expression} → expression_kind used x ≡ truth → expression_kind used y ≡ integer → Meets used (binary (Operator.Relation o) x y) state.kind
  -- 6: "arithmetic on truths"
  plus_truth : {x : Expression} → expression_kind used x ≡ truth → Meets used (unary Sign.Plus x) state.kind
  minus_truth : {x : Expression} → expression_kind used x ≡ truth → Meets used (unary Sign.Minus x) state.kind
  absolute_truth : {x : Expression} → expression_kind used x ≡ truth → Meets used (unary Sign.Absolute x) state.kind
  truth_left : {o : Arithmetic} {x y : Expression} → expression_kind used x ≡ truth → Meets used (binary (Operator.Arithmetic o) x y) state.kind
  truth_right : {o : Arithmetic} {x y : Expression} → expression_kind used y ≡ truth → Meets used (binary (Operator.Arithmetic o) x y) state.kind
  -- 6: "logic on integers"
  not_integer : {x : Expression} → expression_kind used x ≡ integer → Meets used (unary Sign.Not x) state.kind
  integer_left : {o : Logic} {x y : Expression} → expression_kind used x ≡ integer → Meets used (binary (Operator.Logic o) x y) state.kind
  integer_right : {o : Logic} {x y : Expression} → expression_kind used y ≡ integer → Meets used (binary (Operator.Logic o) x y) state.kind
  -- 6: "a type as a number"
  range_as_number : {x : Element} {low high : ℤ} → used x ≡ Range low high → Meets used (name x) state.kind
  boolean_as_number : {x : Element} → used x ≡ Truths → Meets used (name x) state.kind
  -- and what its operands meet: "skip the right side ..; 3 to 6 still look at it"
  operand : {o : Sign} {x : Expression} {s : ℕ} → Meets used x s → Meets used (unary o x) s
  left : {o : Operator} {x y : Expression} {s : ℕ} → Meets used x s → Meets used (binary o x y) s
  right : {o : Operator} {x y : Expression} {s : ℕ} → Meets used y s → Meets used (binary o x y) s

-- ---- the states that an item meets by its mark and its expressions

abbrev pub mark_of : ItemForm → Element
mark_of (constant m x) = m
mark_of (subtype m) = m
mark_of (ranged m x down y) = m

pub data ItemMeets (used : Element → Value) : ItemForm → ℕ → Type 0 where
  -- 4 and 5, the mark being a name used
  mark_without : {i : ItemForm} {s : ℕ} → used (mark_of i) ≡ Without s → ItemMeets used i s
  -- 6: "a type as a number, or the reverse"
  number_as_type : {i : ItemForm} {z : ℤ} → used (mark_of i) ≡ Number z → ItemMeets used i state.kind
  truth_as_type : {i : ItemForm} {t : Bool} → used (mark_of i) ≡ Truth t → ItemMeets used i state.kind
  -- those of the initial value; 6: "integer and truth mixed"
  value : {m : Element} {x : Expression} {s : ℕ} → Meets used x s → ItemMeets used (constant m x) s
  truth_in_range : {m : Element} {x : Expression} {low high : ℤ} → used m ≡ Range low high → expression_kind used x ≡ truth → ItemMeets used (constant m x) state.kind
  integer_in_boolean : {m : Element} {x : Expression} → used m ≡ Truths → expression_kind used x ≡ integer → ItemMeets used (constant m x) state.kind
  -- those of the bounds, which are integers; 6: "a range on boolean"
  range_on_boolean : {m : Element} {x y : Expression} {down : Bool} → used m ≡ Truths → ItemMeets used (ranged m x down y) state.kind
  first : {m : Element} {x y : Expression} {down : Bool} {s : ℕ} → Meets used x s → ItemMeets used (ranged m x down y) s
  first_truth : {m : Element} {x y : Expression} {down : Bool} → expression_kind used x ≡ truth → ItemMeets used (ranged m x down y) state.kind
  second : {m : Element} {x y : Expression} {down : Bool} {s : ℕ} → Meets used y s → ItemMeets used (ranged m x down y) s
  second_truth : {m : Element} {x y : Expression} {down : Bool} → expression_kind used y ≡ truth → ItemMeets used (ranged m x down y) state.kind

-- ---- a piece, below those `above` in the text `all`

pub data Met (all : List Piece) (above : List Done) (p : Piece) : ℕ → Type 0 where
  -- 1 broken: "no form fits"
  broken : ((i : ItemForm) → HasForm p i → ⊥) → Met all above p state.broken
  -- 2 doubled: "its name has another claim anywhere, the language's included"
  doubled : own_doubled all p ≡ true → Met all above p state.doubled
  -- 3 to 6
  by_form : {i : ItemForm} {s : ℕ} → HasForm p i → ItemMeets (use_of all above) i s → Met all above p s

-- "The smallest of 1 to 6 wins"
abbrev pub Least : (ℕ → Type 0) → ℕ → Type 0
Least M s = M s × ((t : ℕ) → M t → s ≤ t)

abbrev pub NoneMet : (ℕ → Type 0) → Type 0
NoneMet M = (t : ℕ) → M t → ⊥
