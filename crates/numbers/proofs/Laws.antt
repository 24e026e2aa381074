-- The ways of the definitions of numbers, in the code's terms: each premise is what a call or a test gives. Assumes nothing.
use Rattle.std.proofs.Common.{Option, Some, None}
use mathlib.Core.Path.{◌≡◌, refl, sym, ap, ◌∙◌}
use mathlib.Core.Bool.{Bool, true, false, not, ◌&&◌, ◌||◌, and-false}
use mathlib.Core.List.{List, [], ◌∷◌}
use Prim.Native.Nat.{ℕ, suc, ◌+◌, ◌-◌, ◌≤◌, ◌<◌, min}
use native.Mathlib.Nat.{not-suc-le-zero}
use native.Mathlib.Omega.{arith}
use borrow.Author.Tests.{eq-eqb, ne_eqb, eqb-true, not-true, not-false, le-leb, lt-leb}
use lib.Dec.{eqb, leb}
use lib.ListN.{length, take, drop, get_or, length-drop}
use lib.Seq.{length-take-le}
use Rattle.laws.proofs.Laws.{both_right}
use Rattle.classes.specs.Bytes.{between, lower, is_digit}
use Rattle.classes.specs.Runs.{run, in_run}
use Rattle.classes.specs.declared.Run.TheVariants.{Below}
use Rattle.classes.proofs.Laws.{part_rest, run_le, byte_inside, digit_inside, by_test, run_some, digit_in_ten}
use Rattle.numbers.specs.Numbers.{digits, exponent, below_base, integer_past, based, pointed, number}
use Rattle.numbers.specs.Digits.{value_spelled, leading, exponent_head}
use Rattle.numbers.specs.declared.Number.{Number}
use Rattle.numbers.specs.declared.Number.TheVariants.{Integer, Real, Neither}

-- the ways of an exponent
module _ (s : List ℕ) (either : Bool) where
  pub head_two : (b : ℕ) → b ≡ get_or s 1 0 → (eqb b 43 || either && eqb b 45) ≡ true → ◌≡◌ {A = ℕ} 2 (exponent_head either s)
  unfolding exponent_head
  head_two b p e = simp (← p, e)

  pub head_one : (b : ℕ) → b ≡ get_or s 1 0 → (eqb b 43 || either && eqb b 45) ≡ false → ◌≡◌ {A = ℕ} 1 (exponent_head either s)
  unfolding exponent_head
  head_one b p e = simp (← p, e)

  module _ (b e : ℕ) (p : b ≡ get_or s 0 0) (l : e ≡ lower b) where
    pub exponent_other : (e ≡ 101 → ⊥) → ◌≡◌ {A = ℕ} 0 (exponent either s)
    unfolding exponent
    exponent_other n = simp (← p, ← l, ne_eqb e 101 n)

    module _ (n d : ℕ) (x : Bool) (t : e ≡ 101) (h : n ≡ exponent_head either s) (q : d ≡ get_or s n 0) (y : x ≡ is_digit d) where
      pub exponent_none : not x ≡ true → ◌≡◌ {A = ℕ} 0 (exponent either s)
      unfolding exponent
      exponent_none z = simp (← p, ← l, eq-eqb e 101 t, ← h, ← q, ← y, not-true x z)

      pub exponent_in : not x ≡ false → n < length s
      exponent_in z = digit_inside s n (ap is_digit (sym q) ∙ sym y ∙ not-false x z)

      pub exponent_whole : (r : ℕ) → not x ≡ false → r ≡ run (Below 10) (take (length s - n) (drop n s)) → n + r ≡ exponent either s
      unfolding exponent digits
      exponent_whole r z k = simp (← p, ← l, eq-eqb e 101 t, ← h, ← q, ← y, not-false x z) (ap (λ (m : ℕ). n + m) (rw (part_rest s n) at k))

-- digits below a base, a `#`, perhaps an exponent
module _ (base : ℕ) (s : List ℕ) (b : ℕ) (x : Bool) (p : b ≡ get_or s 0 0) (y : x ≡ in_run (Below base) b) where
  pub below_none : not x ≡ true → None ≡ below_base base s
  unfolding below_base
  below_none z = simp (← p, ← y, not-true x z)

  module _ (n d : ℕ) (z : not x ≡ false) (h : n ≡ run (Below base) s) (q : d ≡ get_or s n 0) where
    pub below_open : (d ≡ 35 → ⊥) → None ≡ below_base base s
    unfolding below_base
    below_open t = simp (← p, ← y, not-false x z, ← h, ← q, ne_eqb d 35 t)

    pub below_whole : (r : ℕ) → d ≡ 35 → r ≡ exponent false (take (length s - (n + 1)) (drop (n + 1) s)) → Some (n + 1 + r) ≡ below_base base s
    unfolding below_base
    below_whole r t k = simp (← p, ← y, not-false x z, ← h, ← q, eq-eqb d 35 t) (ap (λ (m : ℕ). Some (n + 1 + m)) (rw (part_rest s (n + 1)) at k))

-- a byte that is neither 0 nor past the end
pub byte_at : (s : List ℕ) (n d : ℕ) (k : ℕ) → d ≡ get_or s n 0 → d ≡ suc k → n < length s
byte_at s n d k q e = byte_inside s n (λ z. omega (arith, q, e, z))

-- the parts of a number
exponent_le : (either : Bool) (s : List ℕ) → exponent either s ≤ length s
unfolding exponent digits
exponent_le either s =
    by_test (λ (n : ℕ). n ≤ length s) (eqb (lower (get_or s 0 0)) 101 && is_digit (get_or s (exponent_head either s) 0))
    (λ e. omega (arith, run_le (Below 10) (drop (exponent_head either s) s), length-drop (exponent_head either s) s, digit_inside s (exponent_head either s) (both_right (eqb (lower (get_or s 0 0)) 101) _ e)))
    (λ _. omega arith)

-- an exponent after n bytes stays between the text
pub exponent_fits : (either : Bool) (s : List ℕ) (n r : ℕ) → n ≤ length s → r ≡ exponent either (take (length s - n) (drop n s)) → n + r ≤ length s
exponent_fits either s n r h e = omega (arith, exponent_le either (drop n s), length-drop n s, e ∙ ap (exponent either) (part_rest s n))

-- a run after n bytes stays between the text
pub run_fits : (k : ℕ) (s : List ℕ) (n r : ℕ) → n ≤ length s → r ≡ run (Below k) (take (length s - n) (drop n s)) → n + r ≤ length s
run_fits k s n r h e = omega (arith, run_le (Below k) (drop n s), length-drop n s, e ∙ ap (run (Below k)) (part_rest s n))

-- the front of a text as a part
pub part_front : (s : List ℕ) (n : ℕ) → n < length s → n ≡ length (take n s)
part_front s n h = sym (length-take-le n s (omega arith))

-- the digits after a point, with the exponent
pub fraction_whole : (s : List ℕ) (n r : ℕ) → n ≡ run (Below 10) s → r ≡ exponent true (take (length s - n) (drop n s)) → n + r ≡ digits s + exponent true (drop (digits s) s)
unfolding digits
fraction_whole s n r h e = rw (← h) (ap (λ (m : ℕ). n + m) (rw (part_rest s n) at e))

pub fraction_le : (s : List ℕ) → digits s + exponent true (drop (digits s) s) ≤ length s
unfolding digits
fraction_le s = omega (arith, run_le (Below 10) s, exponent_le true (drop (run (Below 10) s) s), length-drop (run (Below 10) s) s)

-- a number whose n digits stand before a point
module _ (s : List ℕ) (n d : ℕ) (x : Bool) (h : n ≡ digits s) (q : d ≡ get_or s (n + 1) 0) (y : x ≡ is_digit d) where
  pub pointed_none : not x ≡ true → Neither ≡ pointed s
  unfolding pointed
  pointed_none z = simp (← h, ← q, ← y, not-true x z)

  pub pointed_whole : (r : ℕ) → not x ≡ false → r ≡ digits (take (length s - (n + 1)) (drop (n + 1) s)) + exponent true (drop (digits (take (length s - (n + 1)) (drop (n + 1) s))) (take (length s - (n + 1)) (drop (n + 1) s))) → Real (n + 1 + r) ≡ pointed s
  unfolding pointed
  pointed_whole r z e = simp (← h, ← q, ← y, not-false x z) (ap (λ (m : ℕ). Real (n + 1 + m)) (rw (part_rest s (n + 1)) at e))

pub fraction_fits : (s : List ℕ) (n r : ℕ) → n ≤ length s → r ≡ digits (take (length s - n) (drop n s)) + exponent true (drop (digits (take (length s - n) (drop n s))) (take (length s - n) (drop n s))) → n + r ≤ length s
fraction_fits s n r h e = omega (arith, fraction_le (drop n s), length-drop n s, rw (part_rest s n) at e)

-- a number whose n digits stand before a `#`; v is their value, as far as 17
abbrev SizeIn : ℕ → Option ℕ → Type 0
SizeIn n (Some k) = k ≤ n
SizeIn n None = Unit {0}

below_in : (base : ℕ) (s : List ℕ) → SizeIn (length s) (below_base base s)
unfolding below_base
below_in base s =
    by_test (SizeIn (length s)) (in_run (Below base) (get_or s 0 0) && eqb (get_or s (run (Below base) s) 0) 35)
    (λ e. let i = byte_at s (run (Below base) s) (get_or s (run (Below base) s) 0) 34 refl (eqb-true _ _ (both_right (in_run (Below base) (get_or s 0 0)) _ e)) in
    omega (arith, i, exponent_le false (drop (run (Below base) s + 1) s), length-drop (run (Below base) s + 1) s))
    (λ _. tt)

below_le : (base : ℕ) (s : List ℕ) (k : ℕ) → below_base base s ≡ Some k → k ≤ length s
below_le base s k e = rw e at (below_in base s)

module _ (s : List ℕ) (n v : ℕ) (h : n ≡ digits s) (w : v ≡ min 17 (value_spelled 10 0 (take n s))) where
  base_is : v ≤ 16 → v ≡ leading 10 s
  unfolding leading digits
  base_is l = rw (← h) (omega (arith, w))

  pub base_small : v < 2 → Neither ≡ based s
  unfolding based
  base_small l = rw (← base_is (omega arith), lt-leb 2 v l)

  pub base_large : 16 < v → Neither ≡ based s
  unfolding based leading digits
  base_large l = rw (← h, lt-leb (value_spelled 10 0 (take n s)) 16 (omega (arith, w)), and-false (leb 2 (value_spelled 10 0 (take n s))))

  module _ (st : Option ℕ) (g : 2 ≤ v) (l : v ≤ 16) (e : st ≡ below_base v (take (length s - (n + 1)) (drop (n + 1) s))) where
    based_as : based s ≡ integer_past (n + 1) st
    unfolding based
    based_as = rw (← base_is l, le-leb 2 v g, le-leb v 16 l, ← h, e, part_rest s (n + 1))

    pub based_whole : (k : ℕ) → st ≡ Some k → Integer (n + 1 + k) ≡ based s
    based_whole k m = sym (rw m at based_as)

    pub based_none : st ≡ None → Neither ≡ based s
    based_none m = sym (rw m at based_as)

    pub based_fits : (k : ℕ) → n < length s → st ≡ Some k → n + 1 + k ≤ length s
    based_fits k i m = omega (arith, below_le v (drop (n + 1) s) k (ap (below_base v) (sym (part_rest s (n + 1))) ∙ sym e ∙ m), length-drop (n + 1) s)

-- after n digits stands the byte b
module _ (s : List ℕ) (n b : ℕ) (h : n ≡ run (Below 10) s) (q : b ≡ get_or s n 0) where
  pub number_asks : (k : ℕ) → b ≡ suc k → (n ≡ digits s) × (n < length s)
  unfolding digits
  number_asks k e = (h, byte_at s n b k q e)

-- the four ways of a number; a is its first byte, b the one after its digits
module _ (s : List ℕ) (a : ℕ) (d : Bool) (p : a ≡ get_or s 0 0) (i : d ≡ is_digit a) where
  pub number_none : not d ≡ true → Neither ≡ number s
  unfolding number
  number_none z = simp (← p, ← i, not-true d z)

  module _ (z : not d ≡ false) (n b : ℕ) (h : n ≡ run (Below 10) s) (q : b ≡ get_or s n 0) where
    pub number_based : (f : Number) → b ≡ 35 → f ≡ based s → f ≡ number s
    unfolding number digits
    number_based f e g = simp (← p, ← i, not-false d z, ← h, ← q, eq-eqb b 35 e, g)

    pub number_pointed : (f : Number) → (b ≡ 35 → ⊥) → b ≡ 46 → f ≡ pointed s → f ≡ number s
    unfolding number digits
    number_pointed f x e g = simp (← p, ← i, not-false d z, ← h, ← q, ne_eqb b 35 x, eq-eqb b 46 e, g)

    pub number_plain : (r : ℕ) → (b ≡ 35 → ⊥) → (b ≡ 46 → ⊥) → r ≡ exponent false (take (length s - n) (drop n s)) → Integer (n + r) ≡ number s
    unfolding number digits
    number_plain r x y e = simp (← p, ← i, not-false d z, ← h, ← q, ne_eqb b 35 x, ne_eqb b 46 y) (ap (λ (m : ℕ). Integer (n + m)) (rw (part_rest s n) at e))

-- a number has a byte at least, and stays between the text
abbrev pub NumberIn : ℕ → Number → Type 0
NumberIn w (Integer n) = (1 ≤ n) × (n ≤ w)
NumberIn w (Real n) = (1 ≤ n) × (n ≤ w)
NumberIn w Neither = Unit {0}

based_in : (s : List ℕ) → digits s < length s → NumberIn (length s) (based s)
unfolding based
based_in s l = by_test (NumberIn (length s)) (between 2 16 (leading 10 s)) (λ _. go (below_base (leading 10 s) (drop (digits s + 1) s)) refl) (λ _. tt)
  where
    go : (z : Option ℕ) → below_base (leading 10 s) (drop (digits s + 1) s) ≡ z → NumberIn (length s) (integer_past (digits s + 1) z)
    go (Some k) e = (omega arith, omega (arith, below_le (leading 10 s) (drop (digits s + 1) s) k e, length-drop (digits s + 1) s))
    go None e = tt

pointed_in : (s : List ℕ) → digits s < length s → NumberIn (length s) (pointed s)
unfolding pointed
pointed_in s l =
    by_test (NumberIn (length s)) (is_digit (get_or s (digits s + 1) 0))
    (λ _. (omega arith, omega (arith, fraction_le (drop (digits s + 1) s), length-drop (digits s + 1) s)))
    (λ _. tt)

digits_some : (t : List ℕ) → is_digit (get_or t 0 0) ≡ true → (1 ≤ digits t) × (digits t ≤ length t)
unfolding digits
digits_some [] e = absurd (not-suc-le-zero (digit_inside [] 0 e))
digits_some (b ∷ s) e = (run_some (Below 10) b s (digit_in_ten b e), run_le (Below 10) (b ∷ s))

pub number_in : (t : List ℕ) → NumberIn (length t) (number t)
unfolding number
number_in t =
    by_test (NumberIn (length t)) (is_digit (get_or t 0 0))
    (λ e. let d = digits_some t e in
    by_test (NumberIn (length t)) (eqb (get_or t (digits t) 0) 35) (λ x. based_in t (byte_at t (digits t) (get_or t (digits t) 0) 34 refl (eqb-true _ _ x)))
    (λ _. by_test (NumberIn (length t)) (eqb (get_or t (digits t) 0) 46) (λ x. pointed_in t (byte_at t (digits t) (get_or t (digits t) 0) 45 refl (eqb-true _ _ x)))
    (λ _. (omega arith, omega (arith, exponent_le false (drop (digits t) t), length-drop (digits t) t)))))
    (λ _. tt)
