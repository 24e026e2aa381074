-- Arithmetic on integers, in ℤ, as 01's section "Pieces, items, states" has it: a whole number, or the state that stops it.
-- Assumes nothing.
use Rattle.std.specs.Prelude.{ℕ, zero, suc, cond, leb, eqb, ℤ, pos, negsuc, nat_abs, ◌+ℤ◌, ◌-ℤ◌, ◌*ℤ◌}
use Rattle.std.proofs.Math.IntN.{pow}
use Rattle.std.specs.Int.Signed.{quot_z, rem_z}
use Rattle.states.specs.States as state
use Rattle.integers.specs.declared.Folded.{Folded}
use Rattle.integers.specs.declared.Folded.TheVariants.{Whole, Stopped}
use Rattle.integers.specs.declared.Arithmetic.{Arithmetic}
use Rattle.integers.specs.declared.Arithmetic.TheVariants.{Add, Subtract, Multiply, Divide, Remainder, Modulo, Power}

-- the largest integer
abbrev pub largest : ℕ
largest = 2147483647

-- state 9, "a literal or result beyond 2147483647 in size"
unfoldable pub sized_of : ℤ → Folded
sized_of z = cond (leb (nat_abs z) largest) (Whole z) (Stopped state.size)

-- state 7, "divisor zero"; else the result z
unfoldable pub divided_of : ℤ → ℤ → Folded
divided_of b z = cond (eqb (nat_abs b) 0) (Stopped state.divisor) (sized_of z)

-- "`rem` takes the dividend's sign, `mod` the divisor's": a remainder r moved by the divisor b where their signs differ
unfoldable pub to_sign : ℤ → ℤ → ℤ
to_sign (pos zero) b = pos zero
to_sign (pos (suc r)) (pos b) = pos (suc r)
to_sign (pos (suc r)) (negsuc b) = pos (suc r) +ℤ negsuc b
to_sign (negsuc r) (pos b) = negsuc r +ℤ pos b
to_sign (negsuc r) (negsuc b) = negsuc r

-- state 8, "negative exponent"
unfoldable pub power_of : ℤ → ℤ → Folded
power_of a (pos n) = sized_of (pow a n)
power_of a (negsuc n) = Stopped state.exponent

-- the seven operators on integers; "Division truncates to zero"
abbrev pub arithmetic_of : Arithmetic → ℤ → ℤ → Folded
arithmetic_of Add a b = sized_of (a +ℤ b)
arithmetic_of Subtract a b = sized_of (a -ℤ b)
arithmetic_of Multiply a b = sized_of (a *ℤ b)
arithmetic_of Divide a b = divided_of b (quot_z a b)
arithmetic_of Remainder a b = divided_of b (rem_z a b)
arithmetic_of Modulo a b = divided_of b (to_sign (rem_z a b) b)
arithmetic_of Power a b = power_of a b
