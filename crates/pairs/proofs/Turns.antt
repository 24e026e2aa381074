-- The first pair, a turn of each loop at a time: pieces i to n - 1 are left to the outer loop, j to n - 1 to the inner one. Assumes nothing.
use mathlib.Core.Path.{◌≡◌, sym, ap}
use mathlib.Core.Bool.{Bool, true, false, not, ◌&&◌}
use mathlib.Core.List.{List}
use Prim.Native.Nat.{ℕ, suc, ◌+◌, ◌-◌, ◌≤◌, ◌<◌, min}
use native.Mathlib.Numerals.{add-one}
use native.Mathlib.Omega.{arith}
use lib.Dec.{eqb}
use lib.ListN.{length, get_or}
use Rattle.pairs.specs.code.Pairs.{same_number, later_of, pair_from, pair_of}
use Rattle.std.specs.Prelude.{Option, Some, None}

left : (n i : ℕ) → i < n → n - i ≡ suc (n - (i + 1))
left n i h = omega arith

module _ (s : ℕ → ℕ → Bool) (n i : ℕ) where
  pub outer_turn : i < n → pair_from s i (n - i) ≡ later_of s i (i + 1) (n - (i + 1)) (pair_from s (i + 1) (n - (i + 1)))
  unfolding pair_from
  outer_turn h = rw (left n i h, add-one i)

  pub outer_none : n ≤ i → pair_from s i (n - i) ≡ None
  unfolding pair_from
  outer_none h = let e : n - i ≡ 0 = omega arith in rw e

  module _ (j : ℕ) (other : Option (ℕ × ℕ)) where
    pub inner_none : n ≤ j → later_of s i j (n - j) other ≡ other
    unfolding later_of
    inner_none h = let e : n - j ≡ 0 = omega arith in rw e

    pub inner_hit : j < n → s i j ≡ true → later_of s i j (n - j) other ≡ Some (i, j)
    unfolding later_of
    inner_hit h e = rw (left n j h, e, later_of)

    pub inner_miss : j < n → s i j ≡ false → later_of s i j (n - j) other ≡ later_of s i (j + 1) (n - (j + 1)) other
    unfolding later_of
    inner_miss h e = rw (left n j h, e, later_of) (ap (λ (k : ℕ). later_of s i k (n - (j + 1)) other) (sym (add-one j)))

pub number_told : (owns : List ℕ) (i j own : ℕ) (t : Bool) → own ≡ get_or owns i 0 → (not (eqb own 0) && eqb own (get_or owns j 0)) ≡ t → same_number owns i j ≡ t
unfolding same_number
number_told owns i j own t e h = rw (← e) h

pub pairs_start : (owns : List ℕ) (n end : ℕ) → end ≡ min n (length owns) → pair_of owns n ≡ pair_from (same_number owns) 0 (end - 0)
unfolding pair_of
pairs_start owns n end h = let e : end - 0 ≡ min n (length owns) = omega arith in rw e
