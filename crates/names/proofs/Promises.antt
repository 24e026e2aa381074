-- What callers of `link_names` may rely on: what a link says, when two records have one number, and that the first pair of numbers is the
-- first pair of records that share a name. Assumes nothing.
use mathlib.Core.Path.{◌≡◌, refl, sym, ap, ◌∙◌}
use mathlib.Core.Bool.{Bool, true, false, not, ◌&&◌, false≢true}
use mathlib.Core.List.{List}
use Prim.Native.Nat.{ℕ, zero, suc, ◌+◌, ◌≤◌, ◌<◌, min}
use native.Mathlib.Omega.{arith}
use lib.Dec.{eqb}
use lib.ListN.{length, get_or}
use borrow.Author.Tests.{eqb-true, eqb-false, eq-eqb, ne_eqb, not-true}
use Rattle.std.specs.Prelude.{Option, Some, None}
use Rattle.laws.proofs.Laws.{both_left, both_right}
use Rattle.pairs.specs.code.Pairs.{same_number, later_of, pair_from, pair_of}
use Rattle.names.specs.code.Names.{share, shared_pair}
use Rattle.names.specs.code.Links.{records_in, own_of, another, twin_of, any_twin, owns_table}
use Rattle.names.proofs.Firsts.{any_at}
use Rattle.names.proofs.Tables.{filled_length, filled_at}
use Rattle.names.proofs.Owning.{shared_owns, owns_shared}

module _ (s : ℕ → ℕ → Bool) (i j m : ℕ) (other : Option (ℕ × ℕ)) where
  hit : s i j ≡ true → later_of s i j (suc m) other ≡ Some (i, j)
  unfolding later_of
  hit e = rw (e, later_of)

  miss : s i j ≡ false → later_of s i j (suc m) other ≡ later_of s i (suc j) m other
  unfolding later_of
  miss e = rw (e, later_of)

-- two tests that agree below n have one first pair
module _ (s t : ℕ → ℕ → Bool) (n : ℕ) (same : (i j : ℕ) → i < n → j < n → s i j ≡ t i j) where
  later_same : (i j m : ℕ) (other : Option (ℕ × ℕ)) → i < n → j + m ≤ n → later_of s i j m other ≡ later_of t i j m other
  unfolding later_of
  later_same i j zero other a b = refl
  later_same i j (suc m) other a b = go (t i j) refl (same i j a (omega arith)) (later_same i (suc j) m other a (omega arith))
    where
      go : (x : Bool) → t i j ≡ x → s i j ≡ t i j → later_of s i (suc j) m other ≡ later_of t i (suc j) m other → later_of s i j (suc m) other ≡ later_of t i j (suc m) other
      go true e f g = hit s i j m other (f ∙ e) ∙ sym (hit t i j m other e)
      go false e f g = miss s i j m other (f ∙ e) ∙ g ∙ sym (miss t i j m other e)

  pair_same : (i m : ℕ) → i + m ≤ n → pair_from s i m ≡ pair_from t i m
  unfolding pair_from
  pair_same i zero b = refl
  pair_same i (suc m) b =
      ap (later_of s i (suc i) m) (pair_same (suc i) m (omega arith)) ∙ later_same i (suc i) m (pair_from t (suc i) m) (omega arith) (omega arith)

-- a test that none passes has no pair
module _ (s : ℕ → ℕ → Bool) (n : ℕ) (none : (i j : ℕ) → i < j → j < n → s i j ≡ false) where
  later_none : (i j m : ℕ) (other : Option (ℕ × ℕ)) → i < j → j + m ≤ n → later_of s i j m other ≡ other
  unfolding later_of
  later_none i j zero other a b = refl
  later_none i j (suc m) other a b = miss s i j m other (none i j a (omega arith)) ∙ later_none i (suc j) m other (omega arith) (omega arith)

  pair_none : (i m : ℕ) → i + m ≤ n → pair_from s i m ≡ None
  unfolding pair_from
  pair_none i zero b = refl
  pair_none i (suc m) b = later_none i (suc i) m (pair_from s (suc i) m) (omega arith) (omega arith) ∙ pair_none (suc i) m (omega arith)

module _ (text table items : List ℕ) where
  own : ℕ → ℕ
  own = own_of text table items

  -- records have one number, not 0, exactly where they share a name
  pub numbers_share : (i j : ℕ) → j < records_in items → (not (eqb (own_of text table items i) 0) && eqb (own_of text table items i) (own_of text table items j)) ≡ share text table items i j
  unfolding own
  numbers_share i j l = go (share text table items i j) refl
    where
      apart : share text table items i j ≡ false → (x : Bool) → (not (eqb (own i) 0) && eqb (own i) (own j)) ≡ x → x ≡ false
      apart e true g =
          let p = both_left (not (eqb (own i) 0)) (eqb (own i) (own j)) g in
          let q = both_right (not (eqb (own i) 0)) (eqb (own i) (own j)) g in
          absurd (number (own i) refl (eqb-false (own i) 0 (not-true (eqb (own i) 0) p)) (eqb-true (own i) (own j) q))
        where
          number : (v : ℕ) → own i ≡ v → (own i ≡ 0 → ⊥) → own i ≡ own j → ⊥
          number zero h d k = d h
          number (suc f) h d k = false≢true (sym e ∙ owns_shared text table items i j f h (sym k ∙ h))
      apart e false g = refl

      go : (x : Bool) → share text table items i j ≡ x → (not (eqb (own i) 0) && eqb (own i) (own j)) ≡ share text table items i j
      go true e =
          let s = shared_owns text table items i j l e in
          rw (ne_eqb (own i) 0 s.1, eq-eqb (own i) (own j) s.0) (sym e)
      go false e = apart e (not (eqb (own i) 0) && eqb (own i) (own j)) refl ∙ sym e

  module _ (n m : ℕ) (few : n ≤ records_in items) where
    -- the first pair of numbers is the first pair of records that share a name
    pub first_shared : n ≤ m → pair_of (owns_table text table items m) n ≡ shared_pair text table items n
    unfolding pair_of shared_pair same_number owns_table
    first_shared room =
        let z : min n (length (owns_table text table items m)) ≡ n = omega (arith, filled_length (own_of text table items) (records_in items) m) in
        ap (pair_from (same_number (owns_table text table items m)) 0) z ∙ pair_same (same_number (owns_table text table items m)) (share text table items) n agree 0 n (omega arith)
      where
        word : (k : ℕ) → k < n → get_or (owns_table text table items m) k 0 ≡ own_of text table items k
        word k l = filled_at (own_of text table items) (records_in items) m k (omega arith) (omega arith)

        agree : (i j : ℕ) → i < n → j < n → same_number (owns_table text table items m) i j ≡ share text table items i j
        agree i j a b = rw (word i a, word j b) (numbers_share i j (omega arith))

    -- no name is claimed twice: there is no such pair
    pub none_shared : any_twin text table items ≡ false → shared_pair text table items n ≡ None
    unfolding shared_pair any_twin twin_of
    none_shared e = pair_none (share text table items) n alone 0 n (omega arith)
      where
        alone : (i j : ℕ) → i < j → j < n → share text table items i j ≡ false
        alone i j a b = go (share text table items i j) refl
          where
            go : (x : Bool) → share text table items i j ≡ x → share text table items i j ≡ false
            go true h =
                let d : another (share text table items) i j ≡ true = rw (ne_eqb i j (λ z. omega arith), h) in
                let w = any_at (another (share text table items) i) 0 (records_in items) j (omega arith) (omega arith) d in
                absurd (false≢true (sym e ∙ any_at (twin_of text table items) 0 (records_in items) i (omega arith) (omega arith) w))
            go false h = h
