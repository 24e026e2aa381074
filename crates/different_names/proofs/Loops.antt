-- The turns of the loops, in the code's terms. Assumes nothing.
use mathlib.Core.Path.{◌≡◌, refl, sym, ap, subst, ◌∙◌}
use mathlib.Core.Bool.{Bool, true, false, not, ◌&&◌, ◌||◌}
use mathlib.Core.List.{List, [], ◌∷◌}
use Prim.Native.Nat.{ℕ, zero, suc, ◌+◌, ◌-◌, ◌≤◌, ◌<◌}
use native.Mathlib.Numerals.{add-one}
use native.Mathlib.Omega.{arith}
use lib.ListN.{length, get_or, take, drop, drop_of_length-le}
use lib.Seq.{drop-cons}
use Rattle.std.specs.List.{list_any, range_with_len}
use Rattle.stored.specs.Stored.{same_bytes, among, distinct}
use Rattle.different_names.specs.StandingNames.{name_at, names_from}
use Rattle.different_names.specs.code.Orders.{order_of, ToldRight}
use Rattle.different_names.specs.declared.Told.{Told}
use Rattle.different_names.specs.declared.Told.TheVariants.{Different, Twice}
use Rattle.std.specs.declared.cmp.Ordering.{Ordering}
use Rattle.std.specs.declared.cmp.Ordering.TheVariants.{Less, Equal, Greater}
use Rattle.different_names.proofs.Orders.{cons_below, cons_above, cons_same, order_same, below_differs, above_differs, same_yes}
use Rattle.different_names.proofs.Counting.{Climbs, start, climb, climbed, twice_in}

-- ---- what an order tells
module _ (s firsts sizes : List ℕ) (n : ℕ) where
  pub told_none : n ≡ 0 → distinct (names_from (name_at s firsts sizes) 0 n) ≡ true
  unfolding names_from distinct
  told_none e = rw e

  pub climb_first : (a : ℕ) → a < n → Climbs (name_at s firsts sizes) n a 1
  climb_first a l = start a l

  pub climb_on : (a b i : ℕ) (o : Ordering) → Climbs (name_at s firsts sizes) n a i → o ≡ Less → o ≡ order_of (name_at s firsts sizes a) (name_at s firsts sizes b) → b < n → Climbs (name_at s firsts sizes) n b (i + 1)
  climb_on a b i o r e p l = climb b r l (sym p ∙ e)

  pub climb_whole : (a i : ℕ) → Climbs (name_at s firsts sizes) n a i → i ≤ n → n ≤ i → distinct (names_from (name_at s firsts sizes) 0 n) ≡ true
  climb_whole a i r l m = let e : i ≡ n = omega arith in climbed (rw e at r)

  pub told_twice : (a b : ℕ) (o : Ordering) → o ≡ Equal → o ≡ order_of (name_at s firsts sizes a) (name_at s firsts sizes b) → a < n → b < n → (a ≡ b → ⊥) → distinct (names_from (name_at s firsts sizes) 0 n) ≡ false
  told_twice a b o e p l m d = go (a - b) refl
    where
      f : name_at s firsts sizes a ≡ name_at s firsts sizes b
      f = order_same (name_at s firsts sizes a) (name_at s firsts sizes b) (sym p ∙ e)

      go : (k : ℕ) → a - b ≡ k → distinct (names_from (name_at s firsts sizes) 0 n) ≡ false
      go zero q = twice_in (name_at s firsts sizes) 0 n a b (omega arith) (omega arith) (omega arith) f
      go (suc k) q = twice_in (name_at s firsts sizes) 0 n b a (omega arith) (omega arith) (omega arith) (sym f)

-- ---- each with each
next_name : (f : ℕ → List ℕ) (j n : ℕ) → j < n → names_from f j (n - j) ≡ f j ∷ names_from f (j + 1) (n - (j + 1))
unfolding names_from
next_name f j n l = let e : n - j ≡ suc (n - (j + 1)) = omega arith in rw (e, add-one j)

no_name : (f : ℕ → List ℕ) (j n : ℕ) → n ≤ j → names_from f j (n - j) ≡ []
unfolding names_from
no_name f j n l = let e : n - j ≡ 0 = omega arith in rw e

-- whether a name is one of those with these numbers
pub among_range : (x : List ℕ) (f : ℕ → List ℕ) (k n : ℕ) → list_any (λ j. same_bytes x (f j)) (range_with_len k n) ≡ among x (names_from f k n)
unfolding among names_from
among_range x f k zero = refl
among_range x f k (suc n) = ap (λ (t : Bool). same_bytes x (f k) || t) (rw (add-one k) (among_range x f (suc k) n))

module _ (s firsts sizes : List ℕ) (k n : ℕ) (whole : Bool) (e : distinct (names_from (name_at s firsts sizes) k (n - k)) ≡ whole) where
  each_by : (x : Bool) → k < n → x ≡ among (name_at s firsts sizes k) (names_from (name_at s firsts sizes) (k + 1) (n - (k + 1))) → (not x && distinct (names_from (name_at s firsts sizes) (k + 1) (n - (k + 1)))) ≡ whole
  unfolding distinct
  each_by x l p = rw p (sym (ap distinct (next_name (name_at s firsts sizes) k n l)) ∙ e)

  pub each_twice : (x : Bool) → x ≡ among (name_at s firsts sizes k) (names_from (name_at s firsts sizes) (k + 1) (n - (k + 1))) → x ≡ true → k < n → false ≡ whole
  each_twice x p y l = rw y at (each_by x l p)

  pub each_on : (x : Bool) → x ≡ among (name_at s firsts sizes k) (names_from (name_at s firsts sizes) (k + 1) (n - (k + 1))) → x ≡ false → k < n → distinct (names_from (name_at s firsts sizes) (k + 1) (n - (k + 1))) ≡ whole
  each_on x p y l = rw y at (each_by x l p)

  pub each_end : n ≤ k → true ≡ whole
  unfolding distinct
  each_end l = sym (ap distinct (no_name (name_at s firsts sizes) k n l)) ∙ e

pub each_start : (s firsts sizes : List ℕ) (n : ℕ) → distinct (names_from (name_at s firsts sizes) 0 (n - 0)) ≡ distinct (names_from (name_at s firsts sizes) 0 n)
each_start s firsts sizes n = let e : n - 0 ≡ n = omega arith in rw e

-- ---- the whole
pub by_different : (s firsts sizes : List ℕ) (n : ℕ) (t : Told) → t ≡ Different → ToldRight (name_at s firsts sizes) n t → true ≡ distinct (names_from (name_at s firsts sizes) 0 n)
by_different s firsts sizes n t e j = let w : ToldRight (name_at s firsts sizes) n Different = subst (ToldRight (name_at s firsts sizes) n) e j in sym w

pub by_twice : (s firsts sizes : List ℕ) (n : ℕ) (t : Told) → t ≡ Twice → ToldRight (name_at s firsts sizes) n t → false ≡ distinct (names_from (name_at s firsts sizes) 0 n)
by_twice s firsts sizes n t e j = let w : ToldRight (name_at s firsts sizes) n Twice = subst (ToldRight (name_at s firsts sizes) n) e j in sym w
