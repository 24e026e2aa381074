-- The kinds of a table's elements, and the turns of the loops that cut them, in the code's terms. Assumes nothing.
use mathlib.Core.Path.{◌≡◌, refl, ap, ◌∙◌}
use mathlib.Core.Bool.{Bool, true, false, ◌||◌}
use mathlib.Core.List.{List, ◌∷◌}
use Prim.Native.Nat.{ℕ, zero, suc, ◌+◌, ◌-◌, ◌*◌, ◌≤◌, ◌<◌, min}
use native.Mathlib.Nat.{not-suc-le-zero, le_of_suc-le-suc}
use native.Mathlib.Numerals.{add-one}
use native.Mathlib.Omega.{arith}
use mir.Syntax.{w64}
use mir.Val.{Fits}
use lib.ListN.{length, get_or, take, drop, length-drop}
use lib.Seq.{drop-cons, drop-drop}
use Rattle.pieces.specs.Cutting.{more, piece_size, cut}
use Rattle.pieces.specs.Kinds.{closes_piece, opens_piece, kind_pieces}
use Rattle.places.specs.Places.{row_words, rows_in, cell_at, kinds_of}
use Rattle.places.proofs.Laws.{kinds_length, kind_at, kinds_end}
use Rattle.pieces.proofs.Cutting.{more_none, more_on, size_le, cut_first}

pub kind_here : (t : List ℕ) (n i k : ℕ) → row_words * n ≤ length t → i < n → k ≡ cell_at t i 0 → k ≡ get_or (kinds_of n t) i 0
kind_here t n i k l h e = e ∙ kind_at t n i l h

pub kinds_past : (n i : ℕ) (t : List ℕ) → n ≤ i → ◌≡◌ {A = ℕ} 0 (get_or (kinds_of n t) i 0)
unfolding kinds_of
kinds_past zero i t h = refl
kinds_past (suc n) zero t h = absurd (not-suc-le-zero h)
kinds_past (suc n) (suc i) t h = kinds_past n i (drop row_words t) (le_of_suc-le-suc h)

next : (from m : ℕ) → suc (from + m) ≡ from + (m + 1)
next from m = omega arith

-- the turns of `size_at`
module _ (n : ℕ) (t : List ℕ) (from : ℕ) where
  abbrev Whole : ℕ
  Whole = piece_size closes_piece opens_piece (drop from (kinds_of n t))

  abbrev Rest : Bool → ℕ → ℕ
  Rest closed m = more closes_piece opens_piece closed (drop (from + m) (kinds_of n t))

  inside : (i : ℕ) → i < n → drop i (kinds_of n t) ≡ get_or (kinds_of n t) i 0 ∷ drop (suc i) (kinds_of n t)
  inside i h = drop-cons (kinds_of n t) i 0 (rw (kinds_length n t) h)

  pub size_start : (k : ℕ) (closed : Bool) → k ≡ get_or (kinds_of n t) from 0 → closed ≡ closes_piece k → from < n → 1 + Rest closed 1 ≡ Whole
  unfolding piece_size
  size_start k closed p q h = rw (inside from h, ← p, ← q, add-one from) (omega arith)

  module _ (m k : ℕ) (closed x : Bool) (p : k ≡ get_or (kinds_of n t) (from + m) 0) (q : x ≡ opens_piece k) where
    pub size_stop : m + Rest closed m ≡ Whole → from + m < n → (closed || x) ≡ true → m ≡ Whole
    size_stop h l e =
        let z : Rest closed m ≡ 0 = rw (inside (from + m) l, ← p) (more_none closes_piece opens_piece closed k (drop (suc (from + m)) (kinds_of n t)) (rw (← q) e)) in
        omega arith

    pub size_turn : (y : Bool) → y ≡ closes_piece k → m + Rest closed m ≡ Whole → from + m < n → (closed || x) ≡ false → m + 1 + Rest y (m + 1) ≡ Whole
    size_turn y r h l e =
        let z : Rest closed m ≡ suc (Rest y (m + 1)) =
        rw (inside (from + m) l, ← p, r) (more_on closes_piece opens_piece closed k (drop (suc (from + m)) (kinds_of n t)) (rw (← q) e) ∙ ap (λ (i : ℕ). suc (more closes_piece opens_piece (closes_piece k) (drop i (kinds_of n t)))) (next from m)) in
        omega arith

  pub size_end : (m : ℕ) (closed : Bool) → m + Rest closed m ≡ Whole → n ≤ from + m → m ≡ Whole
  unfolding more
  size_end m closed h l = omega (arith, rw (kinds_end t n (from + m) l) at h)

  pub size_inside : (r : ℕ) → r ≡ Whole → from < n → from + r ≤ n
  size_inside r e h = omega (arith, size_le closes_piece opens_piece (drop from (kinds_of n t)), length-drop from (kinds_of n t), kinds_length n t)

  pub size_some : (r : ℕ) → r ≡ Whole → from < n → 1 ≤ r
  unfolding piece_size
  size_some r e h = let z : Whole ≡ suc (more closes_piece opens_piece (closes_piece (get_or (kinds_of n t) from 0)) (drop (suc from) (kinds_of n t))) = rw (inside from h) in omega arith

  pub at_fits : (r : ℕ) → r ≡ Whole → from < n → Fits w64 n → Fits w64 (from + r)
  at_fits r e h f = omega (arith, size_inside r e h)

  pub at_less : (r : ℕ) → r ≡ Whole → from < n → n - (from + r) < n - from
  at_less r e h = omega (arith, size_some r e h)

  pub count_bound : (r c : ℕ) → r ≡ Whole → c ≤ from → from < n → c + 1 ≤ from + r
  count_bound r c e k h = omega (arith, size_some r e h)

  -- the first piece of what is left, and the pieces after it
  pub first_piece : (r : ℕ) → r ≡ Whole → from < n
      → kind_pieces (drop from (kinds_of n t)) ≡ take r (drop from (kinds_of n t)) ∷ kind_pieces (drop (from + r) (kinds_of n t))
  first_piece r e h =
      let f : kind_pieces (drop from (kinds_of n t)) ≡ take Whole (drop from (kinds_of n t)) ∷ kind_pieces (drop Whole (drop from (kinds_of n t))) =
      rw (inside from h) (cut_first closes_piece opens_piece (get_or (kinds_of n t) from 0) (drop (suc from) (kinds_of n t))) in
      f ∙ rw (← e, drop-drop)

  pub count_turn : (c r total : ℕ) → r ≡ Whole → c + length (kind_pieces (drop from (kinds_of n t))) ≡ total → from < n
      → c + 1 + length (kind_pieces (drop (from + r) (kinds_of n t))) ≡ total
  count_turn c r total e h l = omega (arith, ap length (first_piece r e l))

pub count_end : (n : ℕ) (t : List ℕ) (at c total : ℕ) → c + length (kind_pieces (drop at (kinds_of n t))) ≡ total → n ≤ at → c ≡ total
unfolding cut
count_end n t at c total h l = omega (arith, rw (kinds_end t n at l) at h)

-- the answers of `piece_size`
module _ (t : List ℕ) (count rows n from : ℕ) (d : rows ≡ rows_in t) (e : n ≡ min count rows) where
  pub size_none : n ≤ from → ◌≡◌ {A = ℕ} 0 (piece_size closes_piece opens_piece (drop from (kinds_of (min count (rows_in t)) t)))
  unfolding piece_size
  size_none h = rw (← d, ← e, kinds_end t n from h)

  pub size_known : (r : ℕ) → r ≡ piece_size closes_piece opens_piece (drop from (kinds_of n t)) → r ≡ piece_size closes_piece opens_piece (drop from (kinds_of (min count (rows_in t)) t))
  size_known r h = rw (← d, ← e) h
