-- The ways of the definitions of literals, in the code's terms: each premise is what a call or a test gives. Numbers are capped at 2147483648, one
-- above the largest. Assumes nothing.
use mathlib.Core.Path.{◌≡◌, sym, ap, ◌∙◌}
use mathlib.Core.List.{List}
use mathlib.Core.Logic.{◌⊎◌, inl, inr}
use Prim.Native.Nat.{ℕ, zero, suc, ◌+◌, ◌-◌, ◌*◌, ◌^◌, ◌≤◌, ◌<◌, min}
use native.Mathlib.Nat.{mul-le-mul, mul-le-mul_left, mul-le-mul_right, le-mul_of_pos_right, one-le-pow, pow-zero, pow-suc, pow-le-pow_right, mul_assoc, zero-mul, add-zero, mul-one}
use native.Mathlib.Numerals.{add-one}
use native.Mathlib.Omega.{arith}
use borrow.Author.Tests.{eq-eqb, ne_eqb, le-leb, lt-leb}
use lib.IntN.{pos}
use lib.ListN.{length, take, drop, get_or}
use lib.Seq.{get_or-drop, drop-drop, length-take-le}
use Rattle.classes.specs.Bytes.{lower}
use Rattle.classes.specs.Runs.{run}
use Rattle.classes.specs.declared.Run.TheVariants.{Below}
use Rattle.classes.proofs.Laws.{part_rest, run_le, byte_inside}
use Rattle.numbers.specs.Digits.{value_spelled, leading, exponent_head}
use Rattle.numbers.proofs.Spelled.{sides}
use Rattle.integers.specs.Integers.{sized_of, largest}
use Rattle.integers.specs.FoldedNumbers.{beyond}
use Rattle.integers.specs.declared.Folded.{Folded}
use Rattle.integers.specs.declared.Folded.TheVariants.{Whole, Stopped}
use Rattle.states.specs.States as state
use Rattle.classes.specs.Bytes as byte
use Rattle.literals.specs.Literals.{exponent_of, number_in, is_based, literal_number, literal_of}

-- a number so capped, times its base, fits a word
pub product_fits : (v base : ℕ) → v ≤ beyond → base ≤ 16 → v * base ≤ 34359738368
product_fits v base h k = mul-le-mul h k

-- the digits at the front
pub leading_is : (base : ℕ) (s : List ℕ) (n r : ℕ) → n ≡ run (Below base) s → r ≡ min beyond (value_spelled base 0 (take n s)) → r ≡ min beyond (leading base s)
unfolding leading
leading_is base s n r p q = rw (← p) q

-- a number times a power of a base
module _ (m base : ℕ) (g : 2 ≤ base) where
  pub scale_step : (i acc : ℕ) → acc ≡ m * base ^ i → acc * base ≡ m * base ^ (i + 1)
  scale_step i acc e = rw (e, add-one i, pow-suc base i) (mul_assoc m (base ^ i) base)

  scale_grows : (i e : ℕ) → i ≤ e → m * base ^ i ≤ m * base ^ e
  scale_grows i e h = mul-le-mul_left m (pow-le-pow_right {n = base} (omega arith) h)

  -- once too large, so is every later one
  pub scale_over : (i e next acc : ℕ) → acc ≡ m * base ^ i → next ≡ acc * base → largest < next → i < e → Stopped state.size ≡ sized_of (pos (m * base ^ e))
  unfolding sized_of
  scale_over i e next acc p q h l =
      let k : next ≡ m * base ^ (i + 1) = q ∙ scale_step i acc p in
      rw (lt-leb (m * base ^ e) largest (omega (arith, scale_grows (i + 1) e (omega arith))))

  pub scale_done : (i e acc : ℕ) → acc ≡ m * base ^ i → acc ≤ largest → i ≤ e → e ≤ i → Whole (pos acc) ≡ sized_of (pos (m * base ^ e))
  unfolding sized_of
  scale_done i e acc p h l l' =
      let k : i ≡ e = omega arith in
      let q : acc ≡ m * base ^ e = p ∙ ap (λ (n : ℕ). m * base ^ n) k in
      rw (← q, le-leb acc largest h)

-- a power is above its exponent
above : (base e : ℕ) → 2 ≤ base → e < base ^ e
above base zero g = omega (arith, one-le-pow 0 base (omega arith))
above base (suc e) g = rw (pow-suc base e) (omega (arith, above base e g, mul-le-mul_left (base ^ e) g))

-- an exponent capped changes nothing: there the number is 0 or too large either way
pub scale_capped : (m base e : ℕ) → 2 ≤ base → sized_of (pos (m * base ^ min beyond e)) ≡ sized_of (pos (m * base ^ e))
unfolding sized_of
scale_capped zero base e g = rw (zero-mul (base ^ min beyond e), zero-mul (base ^ e))
scale_capped (suc m) base e g = go (sides e beyond)
  where
    large : (k : ℕ) → beyond ≤ k → largest < suc m * base ^ k
    large k h = omega (arith, above base k g, mul-le-mul_right {m = 1} {n = suc m} (base ^ k) (omega arith))

    go : (e ≤ beyond) ⊎ (beyond ≤ e) → sized_of (pos (suc m * base ^ min beyond e)) ≡ sized_of (pos (suc m * base ^ e))
    go (inl h) = let k : min beyond e ≡ e = omega arith in rw k
    go (inr h) =
        let k : min beyond e ≡ beyond = omega arith in
        rw (k, lt-leb (suc m * base ^ beyond) largest (large beyond (omega arith)), lt-leb (suc m * base ^ e) largest (large e h))

pub scale_none : (m base e : ℕ) → m ≡ 0 → Whole (pos 0) ≡ sized_of (pos (m * base ^ e))
unfolding sized_of
scale_none m base e h = rw (h, zero-mul (base ^ e))

pub scale_start : (m base : ℕ) → m ≡ m * base ^ 0
scale_start m base = rw (pow-zero base) (sym (mul-one m))

-- the ways of an exponent, at a place
module _ (s : List ℕ) (at b e : ℕ) (p : b ≡ get_or s at 0) (l : e ≡ lower b) where
  first : get_or (drop at s) 0 0 ≡ b
  first = get_or-drop at s 0 0 ∙ ap (λ (n : ℕ). get_or s n 0) (add-zero at) ∙ sym p

  pub exponent_other : (e ≡ byte.small_e → ⊥) → ◌≡◌ {A = ℕ} 0 (min beyond (exponent_of (drop at s)))
  unfolding exponent_of
  exponent_other n = rw (first, ← l, ne_eqb e byte.small_e n)

  pub exponent_in : e ≡ byte.small_e → at < length s
  unfolding lower
  exponent_in t = byte_inside s at (λ z. omega (arith, sym t ∙ l ∙ ap lower (p ∙ z)))

  module _ (d : ℕ) (t : e ≡ byte.small_e) (q : d ≡ get_or s (at + 1) 0) where
    pub plus_in : d ≡ byte.plus → at + 1 < length s
    plus_in h = byte_inside s (at + 1) (λ z. omega (arith, sym h ∙ q ∙ z))

    pub exponent_plus : (r : ℕ) → d ≡ byte.plus → r ≡ min beyond (leading 10 (take (length s - (at + 2)) (drop (at + 2) s))) → r ≡ min beyond (exponent_of (drop at s))
    unfolding exponent_of exponent_head
    exponent_plus r h k =
        rw (first, ← l, eq-eqb e byte.small_e t, get_or-drop at s 1 0, ← q, eq-eqb d byte.plus h, drop-drop) (rw (part_rest s (at + 2)) at k)

    pub exponent_plain : (r : ℕ) → (d ≡ byte.plus → ⊥) → r ≡ min beyond (leading 10 (take (length s - (at + 1)) (drop (at + 1) s))) → r ≡ min beyond (exponent_of (drop at s))
    unfolding exponent_of exponent_head
    exponent_plain r h k =
        rw (first, ← l, eq-eqb e byte.small_e t, get_or-drop at s 1 0, ← q, ne_eqb d byte.plus h, drop-drop) (rw (part_rest s (at + 1)) at k)

-- digits in a base, and what is after them
module _ (base closing : ℕ) (s : List ℕ) (m : ℕ) (g : 2 ≤ base) (p : m ≡ min beyond (leading base s)) where
  pub number_over : largest < m → Stopped state.size ≡ sized_of (pos (number_in base closing s))
  unfolding sized_of number_in
  number_over h =
      rw (lt-leb (leading base s * base ^ exponent_of (drop (run (Below base) s + closing) s)) largest
      (omega (arith, le-mul_of_pos_right {m = base ^ exponent_of (drop (run (Below base) s + closing) s)} (leading base s) (one-le-pow (exponent_of (drop (run (Below base) s + closing) s)) base (omega arith)))))

  pub number_whole : (n e : ℕ) (r : Folded) → m ≤ largest → n ≡ run (Below base) s → e ≡ min beyond (exponent_of (drop (n + closing) s))
      → r ≡ sized_of (pos (m * base ^ e)) → r ≡ sized_of (pos (number_in base closing s))
  unfolding number_in
  number_whole n e r h q k z =
      let y : m ≡ leading base s = omega arith in
      rw (← y, ← q) (z ∙ ap (λ (x : ℕ). sized_of (pos (m * base ^ x))) k ∙ scale_capped m base (exponent_of (drop (n + closing) s)) g)

pub run_fits : (base : ℕ) (s : List ℕ) (n : ℕ) → n ≡ run (Below base) s → n ≤ length s
run_fits base s n p = omega (arith, run_le (Below base) s)

-- the ways of a literal
pub literal_in_lem : (s : List ℕ) (n b : ℕ) → b ≡ get_or s n 0 → b ≡ byte.hash → n < length s
literal_in_lem s n b q h = byte_inside s n (λ z. omega (arith, sym h ∙ q ∙ z))

module _ (s : List ℕ) (n b : ℕ) (p : n ≡ run (Below 10) s) (q : b ≡ get_or s n 0) (r : Folded) where
  pub literal_plain : (b ≡ byte.hash → ⊥) → r ≡ sized_of (pos (number_in 10 0 s)) → r ≡ literal_of s
  unfolding literal_of literal_number is_based
  literal_plain h k = rw (← p, ← q, ne_eqb b byte.hash h) k

  module _ (base : ℕ) (h : b ≡ byte.hash) (l : base ≡ min beyond (leading 10 s)) where
    pub literal_small : base < 2 → r ≡ sized_of (pos (number_in 10 0 s)) → r ≡ literal_of s
    unfolding literal_of literal_number is_based
    literal_small o k = rw (← p, ← q, eq-eqb b byte.hash h, lt-leb 2 (leading 10 s) (omega arith)) k

    pub literal_large : 16 < base → r ≡ sized_of (pos (number_in 10 0 s)) → r ≡ literal_of s
    unfolding literal_of literal_number is_based
    literal_large o k = rw (← p, ← q, eq-eqb b byte.hash h, lt-leb (leading 10 s) 16 (omega arith), le-leb 2 (leading 10 s) (omega arith)) k

    pub literal_based : 2 ≤ base → base ≤ 16 → r ≡ sized_of (pos (number_in base 1 (take (length s - (n + 1)) (drop (n + 1) s)))) → r ≡ literal_of s
    unfolding literal_of literal_number is_based
    literal_based o o' k =
        let y : base ≡ leading 10 s = omega arith in
        rw (← p, ← q, eq-eqb b byte.hash h, ← y, le-leb base 16 o', le-leb 2 base o) (rw (part_rest s (n + 1)) at k)

pub front_part : (base : ℕ) (s : List ℕ) (n : ℕ) → n ≡ run (Below base) s → n ≡ length (take n s)
front_part base s n p = sym (length-take-le n s (run_fits base s n p))
