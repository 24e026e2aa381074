-- The powers of 0, 1 and -1, and `climb` for every other base. Assumes nothing.
use borrow.Author.Tests.{ne_eqb}
use mathlib.Core.Path.{◌≡◌, refl}
use Prim.Native.Nat.{ℕ, zero, suc, ◌%◌}
use native.Mathlib.Omega.{arith}
use lib.Dec.{eqb}
use lib.IntN.{ℤ, pos, negsuc, pow, one}
use mir.Syntax.{w32, w64}
use mir.Val.{SFits, to_z, of_z, bool_byte}
use Rattle.integers.specs.Integers.{sized_of}
use Rattle.integers.specs.declared.Folded.TheVariants.{Whole}
use Rattle.integers.proofs.Ints.{bits_are, pow_zero, pow_one, pow_minus_even, pow_minus_odd}
use Rattle.integers.proofs.raise.Goals as goal

zero_power : (n : ℕ) → Whole (to_z w32 (of_z w32 (pos (bool_byte (eqb n 0))))) ≡ sized_of (pow (pos 0) n)
unfolding sized_of pow one
zero_power zero = refl
zero_power (suc n) = rw (ne_eqb (suc n) 0 (λ e. omega arith), pow_zero n)

module _ (a : ℤ) (n : ℕ) (f : SFits w64 a) where
  zero_base : (r : ℤ) → of_z w64 a ≡ 0 → r ≡ pos (bool_byte (eqb n 0)) → Whole (to_z w32 (of_z w32 r)) ≡ sized_of (pow a n)
  zero_base r p q = rw (q, bits_are w64 a 0 f p) (zero_power n)

  one_base : of_z w64 a ≡ 1 → Whole (pos 1) ≡ sized_of (pow a n)
  unfolding sized_of
  one_base p = rw (bits_are w64 a 1 f p, pow_one n)

  even_power : of_z w64 a ≡ of_z w64 (negsuc 0) → n % 2 ≡ 0 → Whole (pos 1) ≡ sized_of (pow a n)
  unfolding sized_of
  even_power p h = rw (bits_are w64 a _ f p, pow_minus_even n h)

  odd_power : of_z w64 a ≡ of_z w64 (negsuc 0) → (n % 2 ≡ 0 → ⊥) → Whole (negsuc 0) ≡ sized_of (pow a n)
  unfolding sized_of
  odd_power p h = rw (bits_are w64 a _ f p, pow_minus_odd n h)

pub returns-in-0 : goal.returns-in-0
returns-in-0 c = search zero_base

pub returns-in-1 : goal.returns-in-1
returns-in-1 c = search one_base

pub returns-then-n-eq0 : goal.returns-then-n-eq0
returns-then-n-eq0 c = search even_power

pub returns-else-n-eq0 : goal.returns-else-n-eq0
returns-else-n-eq0 c = search odd_power
