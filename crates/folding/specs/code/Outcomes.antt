-- How states combine. An expression's outcome is its sort, which every element of it decides, and its folded value, which skips what a short
-- circuit skips: "The smallest of 1 to 6 wins; then the first of 7 to 9 met". Assumes nothing.
use Rattle.std.specs.Prelude.{ℕ, min}
use Rattle.states.specs.States as state
use Rattle.folding.specs.code.Folding.{binary_of, unary_of}
use Rattle.integers.specs.declared.Folded.{Folded}
use Rattle.integers.specs.declared.Folded.TheVariants.{Stopped}
use Rattle.integers.specs.declared.Kind.{Kind}
use Rattle.integers.specs.declared.Kind.TheVariants.{Integer, Truth}
use Rattle.folding.specs.declared.Sort.{Sort}
use Rattle.folding.specs.declared.Sort.TheVariants.{Of, Wrong}
use Rattle.folding.specs.declared.Operator.{Operator}
use Rattle.folding.specs.declared.Operator.TheVariants.{Arithmetic, Relation, Logic, Join}
use Rattle.folding.specs.declared.Sign.{Sign}
use Rattle.folding.specs.declared.Sign.TheVariants.{Plus, Minus, Absolute, Not}
use Rattle.folding.specs.declared.Outcome.{Outcome}

-- what an operator makes of two integers and of two truths; 6, "arithmetic on truths, logic on integers", and 3, "`&`"
abbrev pub number_sort : Operator → Sort
number_sort (Arithmetic o) = Of Integer
number_sort (Relation o) = Of Truth
number_sort (Logic o) = Wrong state.kind
number_sort Join = Wrong state.unfolded

abbrev pub boolean_sort : Operator → Sort
boolean_sort (Arithmetic o) = Wrong state.kind
boolean_sort (Relation o) = Of Truth
boolean_sort (Logic o) = Of Truth
boolean_sort Join = Wrong state.unfolded

-- an operator beside a state: no smaller one comes from it but the 3 of `&`
abbrev pub wrong_sort : Operator → ℕ → Sort
wrong_sort (Arithmetic o) s = Wrong s
wrong_sort (Relation o) s = Wrong s
wrong_sort (Logic o) s = Wrong s
wrong_sort Join s = Wrong (min state.unfolded s)

-- of two kinds: a new one gets its line beside each, and its own; 6, "integer and truth mixed"
abbrev pub beside_integer : Operator → Kind → Sort
beside_integer op Integer = number_sort op
beside_integer op Truth = wrong_sort op state.kind

abbrev pub beside_boolean : Operator → Kind → Sort
beside_boolean op Integer = wrong_sort op state.kind
beside_boolean op Truth = boolean_sort op

abbrev pub kinds_sort : Operator → Kind → Kind → Sort
kinds_sort op Integer l = beside_integer op l
kinds_sort op Truth l = beside_boolean op l

-- "The smallest of 1 to 6 wins", wherever it stands
abbrev pub operator_sort : Operator → Sort → Sort → Sort
operator_sort op (Of k) (Of l) = kinds_sort op k l
operator_sort op (Of k) (Wrong t) = wrong_sort op t
operator_sort op (Wrong s) (Of l) = wrong_sort op s
operator_sort op (Wrong s) (Wrong t) = wrong_sort op (min s t)

-- arithmetic signs want an integer, `not` a truth
abbrev pub integer_signed : Sign → Sort
integer_signed Plus = Of Integer
integer_signed Minus = Of Integer
integer_signed Absolute = Of Integer
integer_signed Not = Wrong state.kind

abbrev pub boolean_signed : Sign → Sort
boolean_signed Plus = Wrong state.kind
boolean_signed Minus = Wrong state.kind
boolean_signed Absolute = Wrong state.kind
boolean_signed Not = Of Truth

abbrev pub kind_signed : Sign → Kind → Sort
kind_signed op Integer = integer_signed op
kind_signed op Truth = boolean_signed op

abbrev pub sign_sort : Sign → Sort → Sort
sign_sort op (Of k) = kind_signed op k
sign_sort op (Wrong s) = Wrong s

-- the outcome of an operator on two outcomes, and of a sign on one
abbrev pub combined_of : Operator → Outcome → Outcome → Outcome
combined_of op x y = record { sort = operator_sort op x.sort y.sort; folded = binary_of op x.folded y.folded }

abbrev pub signed_of : Sign → Outcome → Outcome
signed_of op x = record { sort = sign_sort op x.sort; folded = unary_of op x.folded }

-- what stops the whole expression: the sort's state before the value's
abbrev pub settle : Sort → Folded → Folded
settle (Of k) f = f
settle (Wrong s) f = Stopped s

abbrev pub settled_of : Outcome → Folded
settled_of x = settle x.sort x.folded
