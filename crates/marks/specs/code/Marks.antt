-- What an item comes to, by its mark and its folded values: 01's section "Pieces, items, states", the states 0 and 3 to 10. Assumes nothing.
use Rattle.std.specs.Prelude.{Bool, true, false, cond, ◌&&◌, ℤ}
use Rattle.std.specs.Int.Signed.{lt_z, le_z}
use Rattle.integers.specs.declared.Folded.{Folded}
use Rattle.integers.specs.declared.Folded.TheVariants as F
use Rattle.integers.specs.declared.Arithmetic.TheVariants.{Add}
use Rattle.folding.specs.declared.Relation.TheVariants.{Equal}
use Rattle.folding.specs.declared.Operator.TheVariants as O
use Rattle.folding.specs.declared.Sort.{Sort}
use Rattle.folding.specs.declared.Sort.TheVariants as S
use Rattle.folding.specs.declared.Outcome.{Outcome}
use Rattle.folding.specs.code.Outcomes.{operator_sort, settle}
use Rattle.operands.specs.code.Leaves.{whole_leaf, truth_leaf, wrong_leaf}
use Rattle.values.specs.declared.Value.{Value}
use Rattle.values.specs.declared.Value.TheVariants.{Number, Truth, Range, Truths, Without}
use Rattle.states.specs.States as state
use Rattle.integers.specs.declared.Kind.{Kind}

-- a name used in an expression; 6, "a type as a number"
abbrev pub operand_of : Value → Outcome
operand_of (Number z) = whole_leaf z
operand_of (Truth t) = truth_leaf t
operand_of (Range low high) = wrong_leaf state.kind
operand_of Truths = wrong_leaf state.kind
operand_of (Without s) = wrong_leaf s

-- a name used as a mark: the sort that it asks for; 6, "or the reverse"
abbrev pub mark_sort : Value → Sort
mark_sort (Number z) = S.Wrong state.kind
mark_sort (Truth t) = S.Wrong state.kind
mark_sort (Range low high) = (S.Of Kind.Integer)
mark_sort Truths = (S.Of Kind.Truth)
mark_sort (Without s) = S.Wrong s

-- "comes back without a number": the state that stopped it; an answer of the other kind would be 6
abbrev pub without_of : Folded → Value
without_of (F.Whole z) = Without state.kind
without_of (F.Truth t) = Without state.kind
without_of (F.Stopped s) = Without s

-- 10, "outside its mark's range"
abbrev pub held_by : ℤ → ℤ → ℤ → Value
held_by low high z = cond (le_z low z && le_z z high) (Number z) (Without state.range)

-- mark and value stand beside each other as the sides of an equation do: "The smallest of 1 to 6 wins", then what the value's folding met
abbrev pub beside_mark : Value → Outcome → Folded
beside_mark mark x = settle (operator_sort (O.Relation Equal) (mark_sort mark) x.sort) x.folded

-- an integer mark holds a number in its range, boolean a truth
abbrev pub value_in : Value → Folded → Value
value_in (Number y) f = without_of f
value_in (Truth u) f = without_of f
value_in (Range low high) (F.Whole z) = held_by low high z
value_in (Range low high) (F.Truth t) = without_of (F.Truth t)
value_in (Range low high) (F.Stopped s) = without_of (F.Stopped s)
value_in Truths (F.Whole z) = without_of (F.Whole z)
value_in Truths (F.Truth t) = Truth t
value_in Truths (F.Stopped s) = without_of (F.Stopped s)
value_in (Without s) f = without_of f

-- constant N : mark := expression
unfoldable pub constant_of : Value → Outcome → Value
constant_of mark x = value_in mark (beside_mark mark x)

-- subtype N is mark
abbrev pub subtype_of : Value → Value
subtype_of (Number z) = Without state.kind
subtype_of (Truth t) = Without state.kind
subtype_of (Range low high) = Range low high
subtype_of Truths = Truths
subtype_of (Without s) = Without s

-- mark and both bounds are integers, as the operands of a sum are; 6, "a range on boolean"
abbrev pub first_bound : Value → Outcome → Outcome → Folded
first_bound mark a b = settle (operator_sort (O.Arithmetic Add) (mark_sort mark) (operator_sort (O.Arithmetic Add) a.sort b.sort)) a.folded

-- 10, "a non-null subtype range outside its parent's"
abbrev pub inside_of : Value → ℤ → ℤ → Value
inside_of (Number z) low high = Without state.range
inside_of (Truth t) low high = Without state.range
inside_of (Range least most) low high = cond (le_z least low && le_z high most) (Range low high) (Without state.range)
inside_of Truths low high = Without state.range
inside_of (Without s) low high = Without state.range

-- "A low end above the high one is a null range, state 0."
abbrev pub range_under : Value → ℤ → ℤ → Value
range_under mark low high = cond (lt_z high low) (Range low high) (inside_of mark low high)

-- x to y, or x downto y
abbrev pub directed : Value → Bool → ℤ → ℤ → Value
directed mark false x y = range_under mark x y
directed mark true x y = range_under mark y x

-- the bounds are met in text order, for downto too
abbrev pub bounds_in : Value → Bool → Folded → Folded → Value
bounds_in mark down (F.Whole x) (F.Whole y) = directed mark down x y
bounds_in mark down (F.Whole x) (F.Truth u) = without_of (F.Truth u)
bounds_in mark down (F.Whole x) (F.Stopped s) = without_of (F.Stopped s)
bounds_in mark down (F.Truth t) g = without_of (F.Truth t)
bounds_in mark down (F.Stopped s) g = without_of (F.Stopped s)

-- subtype N is mark range a to b, or a downto b
unfoldable pub ranged_of : Value → Outcome → Outcome → Bool → Value
ranged_of mark a b down = bounds_in mark down (first_bound mark a b) b.folded
