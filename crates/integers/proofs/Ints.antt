-- Laws on signed numbers that the folding functions' proofs cite. Assumes nothing.
use mathlib.Core.Path.{◌≡◌, refl, sym, ap, ◌∙◌}
use mathlib.Core.Bool.{true, false}
use Prim.Native.Nat.{ℕ, zero, suc, ◌+◌, ◌*◌, ◌-◌, ◌/◌, ◌%◌, ◌^◌, ◌≤◌, ◌<◌}
use native.Mathlib.Nat.{le_trans, lt_of_le_of_lt, mul-le-mul, mod-le, le_refl, add-zero, add-suc, add-sub_of_le, le-mul_of_pos_right}
use native.Mathlib.Numerals.{add-one}
use native.Mathlib.Omega.{arith}
use lib.Dec.{leb, lit<}
use lib.IntN.{ℤ, pos, negsuc, neg_ℤ, nat_abs, ◌*ℤ◌, *ℤ-zero, pow, one}
use lib.Signed.{mag, rem_z}
use mir.Syntax.{Width, w32, w64}
use mir.Val.{SFits, to_z, of_z}
use mir.ValLaws.{to_z-of_z}
use borrow.Author.Tests.{lt-leb, leb-false, leb-true}
use Rattle.integers.specs.Integers.{largest}
use Rattle.integers.specs.FoldedNumbers.{beyond}

-- ---- sizes

pub mag_le : (z : ℤ) → mag z ≤ nat_abs z
mag_le (pos n) = omega arith
mag_le (negsuc n) = omega arith

pub sfits_small : (z : ℤ) (n : ℕ) → nat_abs z ≤ n → n < 2 ^ 63 → SFits w64 z
sfits_small z n h k = record { sfits = lt_of_le_of_lt (le_trans (mag_le z) h) k }

pub nat_abs_neg : (z : ℤ) → nat_abs (neg_ℤ z) ≡ nat_abs z
nat_abs_neg (pos zero) = refl
nat_abs_neg (pos (suc n)) = refl
nat_abs_neg (negsuc n) = refl

pub nat_abs_mul : (a b : ℤ) → nat_abs (a *ℤ b) ≡ nat_abs a * nat_abs b
nat_abs_mul (pos a) (pos b) = refl
nat_abs_mul (pos a) (negsuc b) = nat_abs_neg (pos (a * suc b))
nat_abs_mul (negsuc a) (pos b) = nat_abs_neg (pos (suc a * b))
nat_abs_mul (negsuc a) (negsuc b) = refl

-- ---- an i32 is at most 2147483648 in size

pub abs_half : (x : ℤ) → SFits w32 x → nat_abs x ≤ beyond
abs_half (pos n) f = let h : n < 2 ^ 31 = f.sfits in omega arith
abs_half (negsuc n) f = let h : n < 2 ^ 31 = f.sfits in omega arith

-- what `sized` keeps is an i32
pub narrow_fits : (z : ℤ) → leb (nat_abs z) largest ≡ true → SFits w32 z
narrow_fits (pos n) e = record { sfits = omega (arith, leb-true n largest e) }
narrow_fits (negsuc n) e = record { sfits = omega (arith, leb-true (suc n) largest e) }

-- ---- a divisor's test: the machine compares bits

-- the number whose bits a test found
pub bits_are : (w : Width) (z : ℤ) (n : ℕ) → SFits w z → of_z w z ≡ n → z ≡ to_z w n
bits_are w z n f e = sym (to_z-of_z w z f) ∙ ap (to_z w) e

pub rem_le : (a b : ℤ) → nat_abs (rem_z a b) ≤ nat_abs a
rem_le (pos a) b = mod-le a (nat_abs b)
rem_le (negsuc a) b = rw (nat_abs_neg (pos (suc a % nat_abs b))) (mod-le (suc a) (nat_abs b))

-- ---- powers

pub pow_step : (a : ℤ) (i : ℕ) → pow a i *ℤ a ≡ pow a (i + 1)
unfolding pow
pow_step a i = rw (add-one i)

pub pow_grows : (a : ℤ) (m k : ℕ) → 1 ≤ nat_abs a → nat_abs (pow a m) ≤ nat_abs (pow a (m + k))
unfolding pow
pow_grows a m zero h = rw (add-zero m) (le_refl (nat_abs (pow a m)))
pow_grows a m (suc k) h =
    rw (add-suc m k, nat_abs_mul (pow a (m + k)) a) (le_trans (pow_grows a m k h) (le-mul_of_pos_right (nat_abs (pow a (m + k))) h))

-- once a power is too large, so is every later one
pub pow_over : (a : ℤ) (m n : ℕ) → 1 ≤ nat_abs a → m ≤ n → leb (nat_abs (pow a m)) largest ≡ false → leb (nat_abs (pow a n)) largest ≡ false
pow_over a m n h k p =
    let g : nat_abs (pow a m) ≤ nat_abs (pow a n) = rw (add-sub_of_le k) at (pow_grows a m (n - m) h) in
    lt-leb (nat_abs (pow a n)) largest (omega (arith, leb-false (nat_abs (pow a m)) largest p))

pub pow_zero : (k : ℕ) → pow (pos 0) (suc k) ≡ pos 0
unfolding pow
pow_zero k = *ℤ-zero (pow (pos 0) k)

pub pow_one : (n : ℕ) → pow (pos 1) n ≡ pos 1
unfolding pow one
pow_one zero = refl
pow_one (suc n) = rw (pow_one n)

pow_even : (k : ℕ) → pow (negsuc 0) (2 * k) ≡ pos 1
unfolding pow one
pow_even zero = refl
pow_even (suc k) = rw (twice k, pow_even k)
  where
    twice : (k : ℕ) → 2 * suc k ≡ suc (suc (2 * k))
    twice k = omega arith

pub pow_minus_even : (n : ℕ) → n % 2 ≡ 0 → pow (negsuc 0) n ≡ pos 1
pow_minus_even n h = let e : n ≡ 2 * (n / 2) = omega arith in ap (pow (negsuc 0)) e ∙ pow_even (n / 2)

pub pow_minus_odd : (n : ℕ) → (n % 2 ≡ 0 → ⊥) → pow (negsuc 0) n ≡ negsuc 0
unfolding pow
pow_minus_odd n h = let e : n ≡ suc (2 * (n / 2)) = omega arith in ap (pow (negsuc 0)) e ∙ rw (pow_even (n / 2))

-- ---- remainders

pub rem_half : (a b : ℤ) → SFits w32 a → nat_abs (rem_z a b) ≤ beyond
rem_half a b f = le_trans (rem_le a b) (abs_half a f)

pub rem_fits : (a b : ℤ) → SFits w32 a → SFits w64 (rem_z a b)
rem_fits a b f = sfits_small (rem_z a b) beyond (rem_half a b f) (lit< tt)

-- one turn of a power: the power so far is small, the base an i32
pub mul_small : (a b : ℤ) → nat_abs a ≤ largest → nat_abs b ≤ beyond → SFits w64 (a *ℤ b)
mul_small a b h k = sfits_small (a *ℤ b) (largest * beyond) (rw (nat_abs_mul a b) (mul-le-mul h k)) (lit< tt)
