-- The turns of the loop, in the code's terms, and `==` of two words. Assumes nothing.
use mathlib.Core.Path.{◌≡◌, refl, ap, ◌∙◌}
use mathlib.Core.Bool.{Bool, true, false, not, ◌&&◌}
use mathlib.Core.List.{List, [], ◌∷◌}
use Prim.Native.Nat.{ℕ, ◌+◌, ◌*◌, ◌≤◌, ◌<◌, min}
use native.Mathlib.Numerals.{add-one}
use native.Mathlib.Omega.{arith}
use borrow.Author.Tests.{eq-eqb, ne_eqb, not-true, not-false}
use lib.Dec.{eqb}
use lib.Pointwise.{pointwise}
use lib.ListN.{length, drop, get_or, drop_of_length-le}
use lib.Seq.{drop-cons}
use Rattle.classes.specs.Bytes.{is_digit, digit_value}
use Rattle.arguments.specs.Arguments.{value_from, amount_of, same_argument}
use Rattle.std.proofs.Common.{nat_eq, Option, Some, None}

pub value_empty : (most : ℕ) (s : List ℕ) → length s ≡ 0 → None ≡ amount_of most s
unfolding amount_of
value_empty most s e = rw (eq-eqb (length s) 0 e)

pub value_some : (most : ℕ) (s : List ℕ) → (length s ≡ 0 → ⊥) → value_from most 0 s ≡ amount_of most s
unfolding amount_of
value_some most s e = rw (ne_eqb (length s) 0 e)

module _ (most : ℕ) (s : List ℕ) (i v : ℕ) (x : Bool) (whole : Option ℕ) (k : value_from most v (drop i s) ≡ whole) (h : i < length s) (e : x ≡ is_digit (get_or s i 0)) where
  pub value_broken : not x ≡ true → None ≡ whole
  unfolding value_from
  value_broken t = rw (drop-cons s i 0 h, ← e, not-true x t, value_from) at k

  pub value_more : (w : ℕ) → not x ≡ false → w ≡ min most (v * 10 + digit_value (get_or s i 0)) → value_from most w (drop (i + 1) s) ≡ whole
  unfolding value_from
  value_more w t p = rw (p, add-one) (rw (drop-cons s i 0 h, ← e, not-false x t, value_from) at k)

pub value_end : (most : ℕ) (s : List ℕ) (i v : ℕ) (whole : Option ℕ) → value_from most v (drop i s) ≡ whole → length s ≤ i → Some v ≡ whole
unfolding value_from
value_end most s i v whole k h = rw (drop_of_length-le s h) at k

-- two words: byte by byte, as `==` compares them
same_as : (a b : List ℕ) → pointwise nat_eq a b ≡ same_argument a b
unfolding same_argument
same_as [] [] = refl
same_as [] (x ∷ b) = refl
same_as (y ∷ a) [] = refl
same_as (y ∷ a) (x ∷ b) = ap (λ (z : Bool). eqb y x && z) (same_as a b)

pub same_is : (a b : List ℕ) (r : Bool) → r ≡ pointwise nat_eq a b → r ≡ same_argument a b
same_is a b r e = e ∙ same_as a b
