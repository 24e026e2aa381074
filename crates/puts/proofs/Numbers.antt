-- Decimals, digit by digit. Assumes nothing.
use Prim.Native.Nat.{ℕ, zero, suc, ◌+◌, ◌-◌, ◌/◌, ◌%◌, ◌≤◌, ◌<◌}
use native.Mathlib.Omega.{arith}
use mathlib.Core.Path.{◌≡◌, refl, ap, sym, ◌∙◌}
use mathlib.Core.Bool.{Bool, true, false}
use mathlib.Core.List.{List, [], ◌∷◌, ◌++◌}
use lib.Dec.{ltb}
use borrow.Author.Tests.{ltb-true, ltb-false, lt-ltb, le-ltb}
use Rattle.puts.specs.Puts.{Wrote}
use Rattle.puts.proofs.Laws.{then, named}
use Rattle.puts.specs.Decimals.{digits_of, decimal_of, signed_text}

-- a small number is its one digit, whatever is allowed
pub small : (f n : ℕ) → n < 10 → digits_of f n ≡ (48 + n) ∷ []
unfolding digits_of
small zero n h = refl
small (suc f) n h = rw (lt-ltb n 10 h, digits_of)

pub none_left : (n : ℕ) → digits_of 0 n ≡ (48 + n) ∷ []
unfolding digits_of
none_left n = refl

pub more : (f n : ℕ) → 10 ≤ n → digits_of (suc f) n ≡ digits_of f (n / 10) ++ ((48 + n % 10) ∷ [])
unfolding digits_of
more f n h = rw (le-ltb n 10 h, digits_of)

-- as many digits as the number has of ones are enough
enough : (f g n : ℕ) → n ≤ f → n ≤ g → digits_of f n ≡ digits_of g n
unfolding digits_of
enough zero g n h k = sym (small g n (omega arith))
enough (suc f) zero n h k = small (suc f) n (omega arith)
enough (suc f) (suc g) n h k = by (ltb n 10) refl (λ q. enough f g (n / 10) (omega arith) (omega arith))
  where
    by : (b : Bool) → ltb n 10 ≡ b → (10 ≤ n → digits_of f (n / 10) ≡ digits_of g (n / 10)) → digits_of (suc f) n ≡ digits_of (suc g) n
    by true e ih = let q : n < 10 = ltb-true n 10 e in small (suc f) n q ∙ sym (small (suc g) n q)
    by false e ih = let q : 10 ≤ n = ltb-false n 10 e in
        rw (e, digits_of) (ap (λ (l : List ℕ). l ++ ((48 + n % 10) ∷ [])) (ih q))

pub one_digit : (n : ℕ) → n < 10 → decimal_of n ≡ (48 + n) ∷ []
unfolding decimal_of
one_digit n h = small n n h

pub last_digit : (n : ℕ) → 10 ≤ n → decimal_of n ≡ decimal_of (n / 10) ++ ((48 + n % 10) ∷ [])
unfolding decimal_of digits_of
last_digit zero h = absurd (omega arith)
last_digit (suc f) h =
    more f (suc f) h ∙ ap (λ (l : List ℕ). l ++ ((48 + suc f % 10) ∷ [])) (enough f (suc f / 10) (suc f / 10) (omega arith) (omega arith))

pub plain : (w : ℕ) → w < 9223372036854775808 → signed_text w ≡ decimal_of w
unfolding signed_text
plain w h = rw (lt-ltb w 9223372036854775808 h)

pub minus : (w : ℕ) → 9223372036854775808 ≤ w → signed_text w ≡ 45 ∷ decimal_of (18446744073709551616 - w)
unfolding signed_text
minus w h = rw (le-ltb w 9223372036854775808 h)

-- the same of what is put
pub one_put : (n : ℕ) {t t' : List ℕ} {at r : ℕ} → n < 10 → Wrote t at ((48 + n) ∷ []) t' r → Wrote t at (decimal_of n) t' r
one_put n h p = named (one_digit n h) p

pub last_put : (n : ℕ) {t t' t'' : List ℕ} {at m r : ℕ} → 10 ≤ n → Wrote t at (decimal_of (n / 10)) t' m
    → Wrote t' m ((48 + n % 10) ∷ []) t'' r → Wrote t at (decimal_of n) t'' r
last_put n h p q = named (last_digit n h) (then p q)

pub plain_put : (w : ℕ) {t t' : List ℕ} {at r : ℕ} → w < 9223372036854775808 → Wrote t at (decimal_of w) t' r → Wrote t at (signed_text w) t' r
plain_put w h p = named (plain w h) p

pub minus_put : (w : ℕ) {t t' t'' : List ℕ} {at m r : ℕ} → w < 18446744073709551616 → 9223372036854775808 ≤ w
    → Wrote t at (45 ∷ []) t' m → Wrote t' m (decimal_of (18446744073709551615 - w + 1)) t'' r → Wrote t at (signed_text w) t'' r
minus_put w f h p q =
    let e : 18446744073709551616 - w ≡ 18446744073709551615 - w + 1 = omega arith in
    named (minus w h ∙ ap (λ (n : ℕ). 45 ∷ decimal_of n) e) (then p q)
