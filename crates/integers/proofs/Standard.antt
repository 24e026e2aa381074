-- The operators' own laws, as VHDL's reference states them: a = (a / b) * b + (a rem b), a = b * n + (a mod b) for some n, each remainder smaller than b in size,
-- `rem` with a's sign and `mod` with b's. Assumes nothing.
use mathlib.Core.Path.{◌≡◌, refl, sym, ap, ◌∙◌}
use mathlib.Core.Logic.{◌⊎◌, inl, inr}
use Prim.Native.Nat.{ℕ, zero, suc, ◌+◌, ◌*◌, ◌/◌, ◌%◌, ◌<◌}
use native.Mathlib.Nat.{div-add-mod', mod-lt, zero-mul}
use native.Mathlib.Omega.{arith}
use lib.IntN.{ℤ, pos, negsuc, neg_ℤ, pred_ℤ, nat_abs, ◌+ℤ◌, ◌-ℤ◌, ◌*ℤ◌, *ℤ-negsuc, neg_ℤ-neg_ℤ, neg_ℤ-+ℤ, pred_ℤ-*ℤ, +ℤ_assoc, +ℤ_comm, -ℤ-+ℤ_cancel}
use lib.Signed.{quot_z, rem_z}
use borrow.Author.Tests.{lt-ltb, le-ltb}
use Rattle.integers.specs.Integers.{to_sign}
use Rattle.integers.proofs.Ints.{nat_abs_neg}

neg_mul : (q m : ℕ) → neg_ℤ (pos q) *ℤ pos m ≡ neg_ℤ (pos (q * m))
neg_mul zero m = rw (zero-mul m)
neg_mul (suc q) m = refl

both_neg : (x y : ℕ) → neg_ℤ (pos x) +ℤ neg_ℤ (pos y) ≡ neg_ℤ (pos (x + y))
both_neg x y = sym (neg_ℤ-+ℤ (pos x) (pos y))

pub quot_rem : (a b : ℤ) → quot_z a b *ℤ b +ℤ rem_z a b ≡ a
quot_rem (pos a) (pos b) = ap pos (div-add-mod' a b)
quot_rem (pos a) (negsuc b) =
    rw (*ℤ-negsuc (neg_ℤ (pos (a / suc b))) b, neg_mul (a / suc b) (suc b), neg_ℤ-neg_ℤ (pos (a / suc b * suc b))) (ap pos (div-add-mod' a (suc b)))
quot_rem (negsuc a) (pos b) = rw (neg_mul (suc a / b) b, both_neg (suc a / b * b) (suc a % b), div-add-mod' (suc a) b)
quot_rem (negsuc a) (negsuc b) = rw (both_neg (suc a / suc b * suc b) (suc a % suc b), div-add-mod' (suc a) (suc b))

pub rem_small : (a b : ℤ) → 0 < nat_abs b → nat_abs (rem_z a b) < nat_abs b
rem_small (pos a) b h = mod-lt a h
rem_small (negsuc a) b h = rw (nat_abs_neg (pos (suc a % nat_abs b))) (mod-lt (suc a) h)

-- with the dividend's sign: that of a dividend which is not negative is not negative, that of a negative one is not positive
abbrev DividendSigned : ℤ → ℤ → Type 0
DividendSigned (pos a) r = (m : ℕ) × (r ≡ pos m)
DividendSigned (negsuc a) r = (m : ℕ) × (r ≡ neg_ℤ (pos m))

pub rem_signed : (a b : ℤ) → DividendSigned a (rem_z a b)
rem_signed (pos a) b = (a % nat_abs b, refl)
rem_signed (negsuc a) b = (suc a % nat_abs b, refl)

-- `mod` is the remainder, or that and the divisor
pub mod_is : (r b : ℤ) → (to_sign r b ≡ r) ⊎ (to_sign r b ≡ r +ℤ b)
unfolding to_sign
mod_is (pos zero) b = inl refl
mod_is (pos (suc r)) (pos b) = inl refl
mod_is (pos (suc r)) (negsuc b) = inr refl
mod_is (negsuc r) (pos b) = inr refl
mod_is (negsuc r) (negsuc b) = inl refl

-- so a is a multiple of b and a mod b
pub mod_law : (a b : ℤ) → (n : ℤ) × (n *ℤ b +ℤ to_sign (rem_z a b) b ≡ a)
mod_law a b = go (mod_is (rem_z a b) b)
  where
    go : (to_sign (rem_z a b) b ≡ rem_z a b) ⊎ (to_sign (rem_z a b) b ≡ rem_z a b +ℤ b) → (n : ℤ) × (n *ℤ b +ℤ to_sign (rem_z a b) b ≡ a)
    go (inl e) = (quot_z a b, rw e (quot_rem a b))
    go (inr e) = (
      pred_ℤ (quot_z a b),
      ap (λ (z : ℤ). pred_ℤ (quot_z a b) *ℤ b +ℤ z) (e ∙ +ℤ_comm (rem_z a b) b)
          ∙ ap (λ (z : ℤ). z +ℤ (b +ℤ rem_z a b)) (pred_ℤ-*ℤ (quot_z a b) b)
          ∙ sym (+ℤ_assoc (quot_z a b *ℤ b -ℤ b) b (rem_z a b))
          ∙ ap (λ (z : ℤ). z +ℤ rem_z a b) (-ℤ-+ℤ_cancel (quot_z a b *ℤ b) b)
          ∙ quot_rem a b,
    )

-- with the divisor's sign, and smaller in size
abbrev SignedAs : ℤ → ℤ → Type 0
SignedAs (pos m) (pos b) = m < b
SignedAs (pos m) (negsuc b) = m ≡ 0
SignedAs (negsuc m) (pos b) = ⊥
SignedAs (negsuc m) (negsuc b) = suc m < suc b

pub mod_signed : (r b : ℤ) → nat_abs r < nat_abs b → SignedAs (to_sign r b) b
unfolding to_sign
mod_signed (pos zero) (pos b) h = h
mod_signed (pos zero) (negsuc b) h = refl
mod_signed (pos (suc r)) (pos b) h = h
mod_signed (pos (suc r)) (negsuc b) h = rw (lt-ltb (suc r) (suc b) h) (omega arith)
mod_signed (negsuc r) (pos b) h = rw (le-ltb b (suc r) (omega arith)) (omega arith)
mod_signed (negsuc r) (negsuc b) h = h
