-- A survey is whole exactly when its frame is good and no item is in one of the states 1 to 10. Assumes nothing.
use mathlib.Core.Path.{◌≡◌, refl, sym, ap, ◌∙◌}
use mathlib.Core.Logic.{◌↔◌}
use mathlib.Core.Bool.{Bool, true}
use mathlib.Core.List.{List}
use Prim.Native.Nat.{ℕ, zero, suc, ◌+◌, ◌-◌, ◌≤◌, ◌<◌}
use native.Mathlib.Nat.{add-zero, zero-add}
use native.Mathlib.Omega.{arith}
use borrow.Author.Tests.{eqb-true, eq-eqb}
use lib.Dec.{eqb}
use lib.ListN.{get_or}
use Rattle.laws.proofs.Laws.{both_left, both_right}
use Rattle.states.specs.States.{states}
use Rattle.records.specs.Tallies.{in_state, counts_from, tally_of}
use Rattle.records.specs.Frames.{none_from, whole_of}
use Rattle.records.proofs.Counting.{counts_at}

none_told : (l : List ℕ) (k m : ℕ) → none_from l k m ≡ true → (j : ℕ) → j < m → get_or l (k + j) 0 ≡ 0
none_told l k zero h j b = absurd (omega arith)
none_told l k (suc m) h zero b =
    ap (λ (i : ℕ). get_or l i 0) (add-zero k) ∙ eqb-true (get_or l k 0) 0 (both_left (eqb (get_or l k 0) 0) (none_from l (suc k) m) h)
none_told l k (suc m) h (suc j) b =
    let z : k + suc j ≡ suc k + j = omega arith in
    ap (λ (i : ℕ). get_or l i 0) z ∙ none_told l (suc k) m (both_right (eqb (get_or l k 0) 0) (none_from l (suc k) m) h) j (omega arith)

none_holds : (l : List ℕ) (k m : ℕ) → ((j : ℕ) → j < m → get_or l (k + j) 0 ≡ 0) → none_from l k m ≡ true
none_holds l k zero h = refl
none_holds l k (suc m) h =
    let e : get_or l k 0 ≡ 0 = ap (λ (i : ℕ). get_or l i 0) (sym (add-zero k)) ∙ h zero (omega arith) in
    rw (eq-eqb (get_or l k 0) 0 e)
    (none_holds l (suc k) m (λ j b. let z : suc k + j ≡ k + suc j = omega arith in ap (λ (i : ℕ). get_or l i 0) z ∙ h (suc j) (omega arith)))

module _ (frame : Bool) (items : List ℕ) (n : ℕ) where
  counted : (k : ℕ) → k ≤ (states - 1) → get_or (counts_from items n 0 states) k 0 ≡ in_state k items 0 n
  counted k h = counts_at items n 0 states k (omega arith) ∙ ap (λ (x : ℕ). in_state x items 0 n) (zero-add k)

  pub whole_exactly : (whole_of frame (tally_of items n) ≡ true) ↔ ((frame ≡ true) × ((k : ℕ) → 1 ≤ k → k ≤ (states - 1) → in_state k items 0 n ≡ 0))
  unfolding whole_of tally_of
  whole_exactly = (
    (λ h. (
      both_left frame (none_from (counts_from items n 0 states) 1 (states - 1)) h,
      λ k a b.
          let z : k ≡ 1 + (k - 1) = omega arith in
          sym (counted k b)
          ∙ ap (λ (i : ℕ). get_or (counts_from items n 0 states) i 0) z
          ∙ none_told (counts_from items n 0 states) 1 (states - 1) (both_right frame (none_from (counts_from items n 0 states) 1 (states - 1)) h) (k - 1) (omega arith),
    )),
    λ x. rw x.0 (none_holds (counts_from items n 0 states) 1 (states - 1) (λ j b. counted (1 + j) (omega arith) ∙ x.1 (1 + j) (omega arith) (omega arith))),
  )
