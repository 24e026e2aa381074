-- The operators on folded operands: "The folded result of an expression is an integer, a truth, or the state that stopped it." Where an
-- operand carries a state, the first one met stands: "left operand, right operand, operator". Assumes nothing.
use Rattle.std.specs.Prelude.{Bool, cond, not, ℤ, pos, nat_abs, neg_ℤ}
use Rattle.integers.specs.Integers.{sized_of, arithmetic_of}
use Rattle.integers.specs.declared.Folded.{Folded}
use Rattle.integers.specs.declared.Folded.TheVariants.{Whole, Truth, Stopped}
use Rattle.states.specs.States as state
use Rattle.folding.specs.declared.Logic.{Logic}
use Rattle.folding.specs.declared.Operator.{Operator}
use Rattle.folding.specs.declared.Operator.TheVariants as O
use Rattle.folding.specs.declared.Sign.{Sign}
use Rattle.folding.specs.declared.Sign.TheVariants.{Plus, Minus, Absolute, Not}
use Rattle.folding.specs.Operators.{relation_of, truth_place, logic_of, decides}

-- an operator on two integers; state 6, "logic on integers", and state 3, "`&`"
abbrev pub on_wholes : Operator → ℤ → ℤ → Folded
on_wholes (O.Arithmetic o) a b = arithmetic_of o a b
on_wholes (O.Relation o) a b = Truth (relation_of o a b)
on_wholes (O.Logic o) a b = Stopped state.kind
on_wholes O.Join a b = Stopped state.unfolded

-- an operator on two truths; state 6, "arithmetic on truths"
abbrev pub on_truths : Operator → Bool → Bool → Folded
on_truths (O.Arithmetic o) t u = Stopped state.kind
on_truths (O.Relation o) t u = Truth (relation_of o (truth_place t) (truth_place u))
on_truths (O.Logic o) t u = Truth (logic_of o t u)
on_truths O.Join t u = Stopped state.unfolded

-- the right side after an integer; state 6, "integer and truth mixed"
abbrev pub after_whole : Operator → ℤ → Folded → Folded
after_whole op a (Whole b) = on_wholes op a b
after_whole op a (Truth u) = Stopped state.kind
after_whole op a (Stopped s) = Stopped s

-- the right side after a truth that does not decide
abbrev pub after_truth : Operator → Bool → Folded → Folded
after_truth op t (Whole b) = Stopped state.kind
after_truth op t (Truth u) = on_truths op t u
after_truth op t (Stopped s) = Stopped s

-- where the left side decides, the result is the same for either right side
abbrev pub short_circuit : Logic → Bool → Folded → Folded
short_circuit o t y = cond (decides o t) (Truth (logic_of o t t)) (after_truth (O.Logic o) t y)

abbrev pub beside_truth : Operator → Bool → Folded → Folded
beside_truth (O.Arithmetic o) t y = after_truth (O.Arithmetic o) t y
beside_truth (O.Relation o) t y = after_truth (O.Relation o) t y
beside_truth (O.Logic o) t y = short_circuit o t y
beside_truth O.Join t y = after_truth O.Join t y

-- "the first of 7 to 9 met, left operand, right operand, operator"
abbrev pub binary_of : Operator → Folded → Folded → Folded
binary_of op (Whole a) y = after_whole op a y
binary_of op (Truth t) y = beside_truth op t y
binary_of op (Stopped s) y = Stopped s

-- a sign or `abs` on an integer, `not` on a truth
abbrev pub signed_whole : Sign → ℤ → Folded
signed_whole Plus a = sized_of a
signed_whole Minus a = sized_of (neg_ℤ a)
signed_whole Absolute a = sized_of (pos (nat_abs a))
signed_whole Not a = Stopped state.kind

abbrev pub not_of : Sign → Bool → Folded
not_of Plus t = Stopped state.kind
not_of Minus t = Stopped state.kind
not_of Absolute t = Stopped state.kind
not_of Not t = Truth (not t)

abbrev pub unary_of : Sign → Folded → Folded
unary_of op (Whole a) = signed_whole op a
unary_of op (Truth t) = not_of op t
unary_of op (Stopped s) = Stopped s
