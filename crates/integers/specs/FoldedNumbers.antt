-- 01's numbers for each case of the enum, "an integer, a truth, or the state that stopped it". Assumes nothing: these are definitions.
use Rattle.std.specs.Prelude.{ℕ, ◌+◌, ◌≤◌, ◌<◌, ◌≡◌, true, false, ℤ, pos, nat_abs}
use Rattle.states.specs.States as states
use Rattle.integers.specs.Integers.{largest, sized_of}
use Rattle.integers.specs.declared.Folded.{Folded}
use Rattle.integers.specs.declared.Folded.TheVariants.{Whole, Truth, Stopped}

-- the first number beyond it, the size of no integer; a number of 32 bits is at most this large in size
abbrev pub beyond : ℕ
beyond = largest + 1

-- the kinds of a value: "kind, 1 integer or 2 truth"
abbrev pub integer_kind : ℕ
integer_kind = 1

abbrev pub truth_kind : ℕ
truth_kind = 2

-- "state; in state 0 kind, 1 integer or 2 truth, and .. numbers; what is absent is 0"
pub record Numbers : Type 0 where
  pub state : ℕ
  pub kind : ℕ
  pub number : ℤ

-- the three cases; false is 0 and true is 1
abbrev pub numbers_of : Folded → Numbers
numbers_of (Whole z) = record { state = 0; kind = integer_kind; number = z }
numbers_of (Truth false) = record { state = 0; kind = truth_kind; number = pos 0 }
numbers_of (Truth true) = record { state = 0; kind = truth_kind; number = pos 1 }
numbers_of (Stopped s) = record { state = s; kind = 0; number = pos 0 }

-- No two answers have the same numbers.
abbrev pub ToldApart : Type 0
ToldApart = (x y : Folded) → numbers_of x ≡ numbers_of y → x ≡ y

-- "0, a number"; "9, a literal or result beyond 2147483647 in size": what the operators' results come to
abbrev pub SizedNumbers : Type 0
SizedNumbers =
    (z : ℤ)
    → (nat_abs z ≤ largest → numbers_of (sized_of z) ≡ record { state = 0; kind = integer_kind; number = z })
    × (largest < nat_abs z → numbers_of (sized_of z) ≡ record { state = states.size; kind = 0; number = pos 0 })
