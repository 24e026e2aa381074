-- What digits and underscores spell in a base, where `most` stands for every number from there on. In the code's terms: each premise is what a
-- call or a test gives. Assumes nothing.
use mathlib.Core.Path.{◌≡◌, refl, sym, ap, ◌∙◌}
use mathlib.Core.Bool.{Bool, true, false}
use mathlib.Core.List.{List, [], ◌∷◌}
use mathlib.Core.Logic.{◌⊎◌, inl, inr}
use Prim.Native.Nat.{ℕ, zero, suc, ◌+◌, ◌*◌, ◌≤◌, ◌<◌, min}
use native.Mathlib.Nat.{le-mul_of_pos_right, mul-zero}
use native.Mathlib.Numerals.{add-one}
use native.Mathlib.Omega.{arith}
use borrow.Author.Tests.{eq-eqb, ne_eqb, leb-true, leb-false}
use lib.Dec.{eqb, leb}
use lib.ListN.{length, drop, get_or, drop_of_length-le}
use lib.Seq.{drop-cons}
use Rattle.classes.specs.Bytes.{digit_value}
use Rattle.numbers.specs.Digits.{digit_in, value_spelled}

-- a number is up to another or above it
pub sides : (a b : ℕ) → (a ≤ b) ⊎ (b ≤ a)
sides a b = go (leb a b) refl
  where
    go : (x : Bool) → leb a b ≡ x → (a ≤ b) ⊎ (b ≤ a)
    go true e = inl (leb-true a b e)
    go false e = inr (omega (arith, leb-false a b e))

-- one digit more
module _ (base v b : ℕ) where
  on_under : b ≡ 95 → digit_in base v b ≡ v
  unfolding digit_in
  on_under e = rw (eq-eqb b 95 e)

  pub on_digit : (b ≡ 95 → ⊥) → digit_in base v b ≡ v * base + digit_value b
  unfolding digit_in
  on_digit e = rw (ne_eqb b 95 e)

module _ (most base v b : ℕ) where
  pub kept_under : b ≡ 95 → v ≤ most → v ≡ min most (digit_in base v b)
  kept_under e h = omega (arith, on_under base v b e)

  -- in the code's terms: x and y are v and the base as wider numbers
  pub digit_more : (x y d n m r : ℕ) → (b ≡ 95 → ⊥) → x ≡ v → y ≡ base → d ≡ digit_value b → n ≡ d → m ≡ most → r ≡ min (x * y + n) m
      → r ≡ min most (digit_in base v b)
  digit_more x y d n m r e p q g k l h =
      let z : x * y ≡ v * base = cc in
      omega (arith, z, on_digit base v b e)

-- a number is 0 or above
zero_or : (n : ℕ) → (n ≡ 0) ⊎ (1 ≤ n)
zero_or zero = inl refl
zero_or (suc n) = inr (omega arith)

-- to cap on the way changes nothing
module _ (most base : ℕ) where
  capped_step : (v b : ℕ) → min most (digit_in base (min most v) b) ≡ min most (digit_in base v b)
  unfolding digit_in
  capped_step v b = go (eqb b 95) refl (sides v most)
    where
      go : (x : Bool) → eqb b 95 ≡ x → (v ≤ most) ⊎ (most ≤ v) → min most (digit_in base (min most v) b) ≡ min most (digit_in base v b)
      go true e h = rw e (omega arith)
      go false e (inl h) = let k : min most v ≡ v = omega arith in rw k
      go false e (inr h) =
          let k : min most v ≡ most = omega arith in
          rest k (zero_or base)
        where
          rest : min most v ≡ most → (base ≡ 0) ⊎ (1 ≤ base) → min most (digit_in base (min most v) b) ≡ min most (digit_in base v b)
          rest k (inl z) = rw (k, e, z, mul-zero most, mul-zero v)
          rest k (inr p) = rw (k, e) (omega (arith, le-mul_of_pos_right {m = base} v (omega arith), le-mul_of_pos_right {m = base} most (omega arith)))

  capped_value : (v : ℕ) (s : List ℕ) → min most (value_spelled base (min most v) s) ≡ min most (value_spelled base v s)
  unfolding value_spelled
  capped_value v [] = omega arith
  capped_value v (b ∷ s) =
      sym (capped_value (digit_in base (min most v) b) s)
      ∙ ap (λ (n : ℕ). min most (value_spelled base n s)) (capped_step v b)
      ∙ capped_value (digit_in base v b) s

-- the turns of a loop over the digits
module _ (most base : ℕ) (s : List ℕ) (i v whole : ℕ) (h : min most (value_spelled base v (drop i s)) ≡ whole) where
  pub value_turn : (w : ℕ) → i < length s → w ≡ min most (digit_in base v (get_or s i 0)) → min most (value_spelled base w (drop (i + 1) s)) ≡ whole
  unfolding value_spelled
  value_turn w l e = rw (e, add-one) (capped_value most base (digit_in base v (get_or s i 0)) (drop (suc i) s) ∙ (rw (drop-cons s i 0 l) at h))

  pub value_end : v ≤ most → length s ≤ i → v ≡ whole
  unfolding value_spelled
  value_end k l = omega (arith, rw (drop_of_length-le s l) at h)
