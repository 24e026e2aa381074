-- A tally, a turn at a time: the counts so far, with those of the records left, are those of all. Assumes nothing.
use mathlib.Core.Path.{◌≡◌, refl, sym, ap, ◌∙◌}
use mathlib.Core.Bool.{Bool, true, false}
use mathlib.Core.List.{List}
use Prim.Native.Nat.{ℕ, zero, suc, ◌+◌, ◌-◌, ◌≤◌, ◌<◌}
use native.Mathlib.Nat.{not-suc-le-zero, le_of_suc-le-suc, add-zero}
use native.Mathlib.Numerals.{add-one}
use native.Mathlib.Omega.{arith}
use native.Mathlib.Decide.{ℕ_discrete}
use lib.Dec.{eqb}
use lib.ListN.{length, get_or, set, replicate, length-set}
use lib.Seq.{get_or-set_same, get_or-set_other, ext_get_or}
use borrow.Author.Tests.{eq-eqb, ne_eqb}
use Rattle.states.specs.States.{states}
use Rattle.records.specs.Records.{item_state}
use Rattle.records.specs.Tallies.{in_state, counts_from, tally_of}
use Rattle.records.specs.Counting.{one_if}
use Rattle.records.specs.declared.Tally.{Tally}
use Rattle.laws.proofs.Laws.{zeros_at}

-- one more at s
added : (l : List ℕ) (s k : ℕ) → s < length l → get_or (set l s (get_or l s 0 + 1)) k 0 ≡ get_or l k 0 + one_if (eqb s k)
added l s k h = go (ℕ_discrete k s)
  where
    go : Dec (k ≡ s) → get_or (set l s (get_or l s 0 + 1)) k 0 ≡ get_or l k 0 + one_if (eqb s k)
    go (yes e) = rw (e, get_or-set_same l s (get_or l s 0 + 1) 0 h, eq-eqb s s refl)
    go (no f) = rw (get_or-set_other l s k (get_or l s 0 + 1) 0 f, ne_eqb s k (λ e. f (sym e))) (omega arith)

-- no more where s is no count's state
passed : (s k : ℕ) → k < states → states ≤ s → one_if (eqb s k) ≡ 0
passed s k h g = rw (ne_eqb s k (λ e. omega arith))

small : (b : Bool) → one_if b ≤ 1
small true = omega arith
small false = omega arith

-- l counts the first i of n records, and no count is more than i
abbrev pub Counted : List ℕ → ℕ → ℕ → List ℕ → Type 0
Counted items n i l = (length l ≡ states) × ((k : ℕ) → k < states → (get_or l k 0 + in_state k items i (n - i) ≡ in_state k items 0 n) × (get_or l k 0 ≤ i))

pub none_yet : (items : List ℕ) (n : ℕ) → Counted items n 0 (replicate states 0)
none_yet items n = (refl, λ k h. (start k, omega (arith, zeros_at states k)))
  where
    start : (k : ℕ) → get_or (replicate states 0) k 0 + in_state k items 0 (n - 0) ≡ in_state k items 0 n
    start k = let e : n - 0 ≡ n = omega arith in rw (e, zeros_at states k) (omega arith)

module _ (items : List ℕ) (n i s : ℕ) (l : List ℕ) (h : i < n) (e : s ≡ item_state items i) (so_far : Counted items n i l) where
  turn : (k : ℕ) → in_state k items i (n - i) ≡ one_if (eqb s k) + in_state k items (i + 1) (n - (i + 1))
  unfolding in_state
  turn k = let z : n - i ≡ suc (n - (i + 1)) = omega arith in rw (z, add-one i, e)

  pub after_add : s < states → Counted items n (i + 1) (set l s (get_or l s 0 + 1))
  after_add g = (
    length-set l _ _ ∙ so_far.0,
    λ k kl. (
      omega (arith, (so_far.1 k kl).0, added l s k (omega arith), turn k),
      omega (arith, (so_far.1 k kl).1, added l s k (omega arith), small (eqb s k)),
    ),
  )

  pub after_pass : states ≤ s → Counted items n (i + 1) l
  after_pass g = (so_far.0, λ k kl. (omega (arith, (so_far.1 k kl).0, turn k, passed s k kl g), omega (arith, (so_far.1 k kl).1)))

counts_length : (items : List ℕ) (n k m : ℕ) → length (counts_from items n k m) ≡ m
unfolding counts_from
counts_length items n k zero = refl
counts_length items n k (suc m) = ap suc (counts_length items n (suc k) m)

pub counts_at : (items : List ℕ) (n k m j : ℕ) → j < m → get_or (counts_from items n k m) j 0 ≡ in_state (k + j) items 0 n
unfolding counts_from
counts_at items n k zero j h = absurd (not-suc-le-zero h)
counts_at items n k (suc m) zero h = rw (add-zero k)
counts_at items n k (suc m) (suc j) h = counts_at items n (suc k) m j (le_of_suc-le-suc h) ∙ ap (λ (x : ℕ). in_state x items 0 n) (next k j)
  where
    next : (k j : ℕ) → suc k + j ≡ k + suc j
    next k j = omega arith

pub all_counted : (items : List ℕ) (n i : ℕ) (t : Tally) → n ≤ i → Counted items n i t.counts → t ≡ tally_of items n
unfolding tally_of in_state
all_counted items n i t h so_far = ap (λ (l : List ℕ). record { counts = l }) whole
  where
    at : (k : ℕ) → k < length t.counts → get_or t.counts k 0 ≡ get_or (counts_from items n 0 states) k 0
    at k l =
        let kl : k < states = omega (arith, so_far.0) in
        let z : n - i ≡ 0 = omega arith in
        let r : get_or t.counts k 0 + in_state k items i 0 ≡ in_state k items 0 n = rw z at (so_far.1 k kl).0 in
        let e : 0 + k ≡ k = omega arith in
        let q : get_or (counts_from items n 0 states) k 0 ≡ in_state k items 0 n = counts_at items n 0 states k kl ∙ ap (λ (x : ℕ). in_state x items 0 n) e in
        omega arith

    whole : t.counts ≡ counts_from items n 0 states
    whole = ext_get_or 0 t.counts (counts_from items n 0 states) (so_far.0 ∙ sym (counts_length items n 0 states)) at
