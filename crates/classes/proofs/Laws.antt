-- Laws of `count_while`, of which a run is one: one byte more, none, and how many there can be. Assumes nothing.
use mathlib.Core.Path.{◌≡◌, refl, sym, ◌∙◌}
use mathlib.Core.Bool.{Bool, true, false, cond, not, ◌||◌, false≢true}
use mathlib.Core.List.{List, [], ◌∷◌}
use Prim.Native.Nat.{ℕ, zero, suc, ◌+◌, ◌-◌, ◌≤◌, ◌<◌, zero-le, suc-le-suc}
use native.Mathlib.Nat.{not-suc-le-zero, le_of_suc-le-suc, le_refl}
use native.Mathlib.Numerals.{add-one}
use native.Mathlib.Omega.{arith}
use borrow.Author.Tests.{eq-eqb, ne_eqb, lt-ltb, le-leb, leb-true, leb-false, not-true, not-false}
use lib.Dec.{leb}
use lib.ListN.{length, take, drop, get_or, length-drop, drop_of_length-le, get_or-eq_default}
use lib.Seq.{take_all}
use Rattle.laws.proofs.Laws.{both_left, both_right}
use Rattle.classes.specs.Bytes.{between, is_letter, is_digit, digit_value}
use Rattle.classes.specs.Runs.{count_while, run, in_run, goes_on}
use Rattle.classes.specs.declared.Run.{Run}
use Rattle.classes.specs.declared.Run.TheVariants.{Word, Below}

module _ (q : List ℕ → Bool) where
  pub count_more : (b : ℕ) (s : List ℕ) → q (b ∷ s) ≡ true → count_while q (b ∷ s) ≡ suc (count_while q s)
  unfolding count_while
  count_more b s e = rw (e, count_while)

  pub count_none : (b : ℕ) (s : List ℕ) → q (b ∷ s) ≡ false → count_while q (b ∷ s) ≡ 0
  unfolding count_while
  count_none b s e = rw (e, count_while)

  pub count_le : (s : List ℕ) → count_while q s ≤ length s
  unfolding count_while
  count_le [] = zero-le
  count_le (b ∷ s) = go (q (b ∷ s)) refl (count_le s)
    where
      go : (t : Bool) → q (b ∷ s) ≡ t → count_while q s ≤ length s → count_while q (b ∷ s) ≤ suc (length s)
      go true e h = rw (count_more b s e) (suc-le-suc h)
      go false e h = rw (count_none b s e) zero-le

  -- at a place of a text
  pub count_on : (s : List ℕ) (i : ℕ) → i < length s → q (drop i s) ≡ true → count_while q (drop i s) ≡ suc (count_while q (drop (i + 1) s))
  count_on [] i l e = absurd (not-suc-le-zero l)
  count_on (b ∷ s) zero l e = count_more b s e
  count_on (b ∷ s) (suc i) l e = count_on s i (le_of_suc-le-suc l) e ∙ rw (add-one, add-one)

  pub count_stop : (s : List ℕ) (i : ℕ) → i < length s → q (drop i s) ≡ false → count_while q (drop i s) ≡ 0
  count_stop [] i l e = absurd (not-suc-le-zero l)
  count_stop (b ∷ s) zero l e = count_none b s e
  count_stop (b ∷ s) (suc i) l e = count_stop s i (le_of_suc-le-suc l) e

  pub count_end : (s : List ℕ) (i : ℕ) → length s ≤ i → count_while q (drop i s) ≡ 0
  unfolding count_while
  count_end s i l = rw (drop_of_length-le s l)

-- a part that runs to the end is the rest
pub part_rest : (s : List ℕ) (i : ℕ) → take (length s - i) (drop i s) ≡ drop i s
part_rest s i = take_all (length s - i) (drop i s) (rw length-drop (le_refl _))

-- both of two tests
-- a byte that is between two bounds
pub within_low : (low high b : ℕ) → between low high b ≡ true → low ≤ b
within_low low high b e = leb-true low b (both_left (leb low b) (leb b high) e)

-- a property of a choice holds if it holds of each side where that side is chosen
pub by_test : {A : Type 0} (P : A → Type 0) (t : Bool) {x y : A} → (t ≡ true → P x) → (t ≡ false → P y) → P (cond t x y)
by_test P true f g = f refl
by_test P false f g = g refl

pub within_high : (low high b : ℕ) → between low high b ≡ true → b ≤ high
within_high low high b e = leb-true b high (both_right (leb low b) (leb b high) e)

-- a byte that is not 0 stands between the list
pub byte_inside : (s : List ℕ) (i : ℕ) → (get_or s i 0 ≡ 0 → ⊥) → i < length s
byte_inside s i n = go (leb (length s) i) refl
  where
    go : (x : Bool) → leb (length s) i ≡ x → i < length s
    go true e = absurd (n (get_or-eq_default s 0 (leb-true (length s) i e)))
    go false e = leb-false (length s) i e

pub digit_inside : (s : List ℕ) (i : ℕ) → is_digit (get_or s i 0) ≡ true → i < length s
unfolding is_digit
digit_inside s i e = byte_inside s i (λ z. let h = within_low 48 57 (get_or s i 0) e in omega (arith, h, z))

-- the ways of `digit_value`, in the code's terms
module _ (b : ℕ) (x : Bool) where
  pub digit_low : x ≡ is_digit b → x ≡ true → 48 ≤ b
  unfolding is_digit
  digit_low e t = within_low 48 57 b (sym e ∙ t)

  pub digit_first : x ≡ is_digit b → x ≡ true → b - 48 ≡ digit_value b
  unfolding digit_value
  digit_first e t = simp (← e, t)

  pub digit_upper : x ≡ is_digit b → x ≡ false → between 65 70 b ≡ true → b - 55 ≡ digit_value b
  unfolding digit_value
  digit_upper e t u = simp (← e, t, u)

  pub digit_lower : x ≡ is_digit b → x ≡ false → between 65 70 b ≡ false → between 97 102 b ≡ true → b - 87 ≡ digit_value b
  unfolding digit_value
  digit_lower e t u v = simp (← e, t, u, v)

  pub digit_none : x ≡ is_digit b → x ≡ false → between 65 70 b ≡ false → between 97 102 b ≡ false → 16 ≡ digit_value b
  unfolding digit_value
  digit_none e t u v = simp (← e, t, u, v)

-- the ways of `goes_on`, in the code's terms
module _ (c : Run) (s : List ℕ) (b : ℕ) (x : Bool) where
  pub goes_yes : b ≡ get_or s 0 0 → x ≡ in_run c b → x ≡ true → true ≡ goes_on c s
  unfolding goes_on
  goes_yes p e t = simp (← p, ← e, t)

  pub goes_no : b ≡ get_or s 0 0 → x ≡ in_run c b → x ≡ false → (b ≡ 95 → ⊥) → false ≡ goes_on c s
  unfolding goes_on
  goes_no p e t n = simp (← p, ← e, t, ne_eqb b 95 n)

  pub goes_over : (y : Bool) (d : ℕ) → b ≡ get_or s 0 0 → x ≡ in_run c b → x ≡ false → b ≡ 95 → d ≡ get_or s 1 0 → y ≡ in_run c d → y ≡ goes_on c s
  unfolding goes_on
  goes_over y d p e t n p' e' = simp (← p, ← e, t, eq-eqb b 95 n, ← p', e')

-- a run is no longer than what it begins
pub run_le : (c : Run) (s : List ℕ) → run c s ≤ length s
unfolding run
run_le c s = count_le (goes_on c) s

-- a run that begins has a byte at least
pub run_some : (c : Run) (b : ℕ) (s : List ℕ) → in_run c b ≡ true → 1 ≤ run c (b ∷ s)
unfolding run
run_some c b s e = rw (count_more (goes_on c) b s (goes b s e)) (suc-le-suc zero-le)
  where
    goes : (b : ℕ) (s : List ℕ) → in_run c b ≡ true → goes_on c (b ∷ s) ≡ true
    goes b s e = sym (goes_yes c (b ∷ s) b true refl (sym e) refl)

pub letter_in_word : (b : ℕ) → is_letter b ≡ true → in_run Word b ≡ true
unfolding in_run
letter_in_word b e = rw e

pub digit_in_ten : (b : ℕ) → is_digit b ≡ true → in_run (Below 10) b ≡ true
unfolding in_run digit_value is_digit
digit_in_ten b e = rw e (lt-ltb (b - 48) 10 (omega (arith, within_high 48 57 b e)))

-- what is no letter is no letter of upper or lower case
pub not_upper : (x : ℕ) → is_letter x ≡ false → 65 ≤ x → x ≤ 90 → ⊥
unfolding is_letter
not_upper x e l h = false≢true (sym e ∙ rw (le-leb 65 x l, le-leb x 90 h))

pub not_lower : (x : ℕ) → is_letter x ≡ false → 97 ≤ x → x ≤ 122 → ⊥
unfolding is_letter
not_lower x e l h = false≢true (sym e ∙ rw (le-leb 97 x l, le-leb x 122 h, or_true (between 65 90 x)))
  where
    or_true : (y : Bool) → (y || true) ≡ true
    or_true true = refl
    or_true false = refl

-- one turn of the loop over a run, in the code's terms
module _ (q : List ℕ → Bool) (s : List ℕ) (i total : ℕ) (x : Bool) where
  pub turn_on : i + count_while q (drop i s) ≡ total → i < length s → x ≡ q (take (length s - i) (drop i s)) → not x ≡ false → i + 1 + count_while q (drop (i + 1) s) ≡ total
  turn_on v l e t = omega (arith, count_on q s i l (rw (part_rest s i) at (sym e ∙ not-false x t)), v)

  pub turn_stop : i + count_while q (drop i s) ≡ total → i < length s → x ≡ q (take (length s - i) (drop i s)) → not x ≡ true → i ≡ total
  turn_stop v l e t = omega (arith, count_stop q s i l (rw (part_rest s i) at (sym e ∙ not-true x t)), v)

pub turn_end : (q : List ℕ → Bool) (s : List ℕ) (i total : ℕ) → i + count_while q (drop i s) ≡ total → length s ≤ i → i ≡ total
turn_end q s i total v l = omega (arith, count_end q s i l, v)
