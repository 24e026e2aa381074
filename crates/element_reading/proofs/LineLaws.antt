-- The rows of a line: what stands first, with the rows of what follows it. Assumes nothing.
use mathlib.Core.Path.{◌≡◌, refl, ap, ◌∙◌}
use mathlib.Core.Bool.{Bool}
use mathlib.Core.List.{List, [], ◌∷◌}
use Prim.Native.Nat.{ℕ, zero, suc, pred, ◌+◌, ◌≤◌, ◌<◌, zero-le, suc-le-suc}
use native.Mathlib.Nat.{not-suc-le-zero, add-zero, suc-add, add-suc, add_assoc}
use native.Mathlib.Omega.{arith}
use lib.ListN.{length, drop, length-drop, drop_of_length-le}
use lib.Seq.{drop-cons, drop-drop}
use Rattle.elements.specs.Element.{element_at, ticks_after}
use Rattle.elements.specs.declared.Kind.{Kind}
use Rattle.elements.specs.declared.Front.{Front}
use Rattle.elements.specs.declared.Front.TheVariants.{Skip, Element}
use Rattle.elements.proofs.Sizes.{size_of, element_good}
use Rattle.element_reading.specs.Rows.{ElementRow, line_rows}

abbrev pub row_at : Kind → ℕ → ℕ → ElementRow
row_at k at n = record { kind = k; first = at; size = n }

-- the bytes that were read already are passed over
pub line_over : (k at : ℕ) (ticks : Bool) (l : List ℕ) → line_rows k at ticks l ≡ line_rows 0 (at + k) ticks (drop k l)
unfolding line_rows
line_over zero at ticks l = rw add-zero
line_over (suc k) at ticks [] = refl
line_over (suc k) at ticks (b ∷ l) = line_over k (suc at) ticks l ∙ rw (suc-add, ← add-suc)

-- at the front of a rest
pub front_skip : (r : List ℕ) (at n : ℕ) (ticks : Bool) → 0 < length r → element_at ticks r ≡ Skip n → line_rows 0 at ticks r ≡ line_rows 0 (at + n) ticks (drop n r)
unfolding line_rows
front_skip [] at n ticks l e = absurd (not-suc-le-zero l)
front_skip (b ∷ r) at zero ticks l e = absurd (not-suc-le-zero (rw e at (element_good b r ticks).0))
front_skip (b ∷ r) at (suc m) ticks l e = rw (e, line_rows) (line_over m (suc at) ticks r ∙ rw (suc-add, ← add-suc))

pub front_element : (r : List ℕ) (at n : ℕ) (ticks : Bool) (k : Kind) → 0 < length r → element_at ticks r ≡ Element k n → line_rows 0 at ticks r ≡ row_at k at n ∷ line_rows 0 (at + n) (ticks_after k) (drop n r)
unfolding line_rows
front_element [] at n ticks k l e = absurd (not-suc-le-zero l)
front_element (b ∷ r) at zero ticks k l e = absurd (not-suc-le-zero (rw e at (element_good b r ticks).0))
front_element (b ∷ r) at (suc m) ticks k l e = rw (e, line_rows) (ap (λ (t : List ElementRow). row_at k at (suc m) ∷ t) (line_over m (suc at) (ticks_after k) r ∙ rw (suc-add, ← add-suc)))

pub rest_there : (s : List ℕ) (i : ℕ) → i < length s → 0 < length (drop i s)
rest_there s i h = rw (drop-cons s i 0 h) (suc-le-suc zero-le)

-- at a place of a line that begins at the byte `at`
module _ (l : List ℕ) (at i n : ℕ) (ticks : Bool) (h : i < length l) where
  pub line_skip : element_at ticks (drop i l) ≡ Skip n → line_rows 0 (at + i) ticks (drop i l) ≡ line_rows 0 (at + (i + n)) ticks (drop (i + n) l)
  line_skip e = front_skip (drop i l) (at + i) n ticks (rest_there l i h) e ∙ rw (drop-drop, add_assoc)

  pub line_element : (k : Kind) → element_at ticks (drop i l) ≡ Element k n → line_rows 0 (at + i) ticks (drop i l) ≡ row_at k (at + i) n ∷ line_rows 0 (at + (i + n)) (ticks_after k) (drop (i + n) l)
  line_element k e = front_element (drop i l) (at + i) n ticks k (rest_there l i h) e ∙ rw (drop-drop, add_assoc)

pub line_end : (l : List ℕ) (at i : ℕ) (ticks : Bool) → length l ≤ i → line_rows 0 at ticks (drop i l) ≡ []
unfolding line_rows
line_end l at i ticks h = rw (drop_of_length-le l h)

-- what stands at a place has a byte at least, and ends within the line
front_good : (r : List ℕ) (ticks : Bool) → 0 < length r → (1 ≤ size_of (element_at ticks r)) × (size_of (element_at ticks r) ≤ length r)
front_good [] ticks l = absurd (not-suc-le-zero l)
front_good (b ∷ r) ticks l = element_good b r ticks

pub place_good : (l : List ℕ) (i : ℕ) (ticks : Bool) → i < length l → (1 ≤ size_of (element_at ticks (drop i l))) × (i + size_of (element_at ticks (drop i l)) ≤ length l)
place_good l i ticks h = let g = front_good (drop i l) ticks (rest_there l i h) in (g.0, omega (arith, g.1, length-drop i l))

-- a line has no more elements than bytes
pub line_few : (l : List ℕ) (k at : ℕ) (ticks : Bool) → length (line_rows k at ticks l) ≤ length l
unfolding line_rows
line_few [] zero at ticks = zero-le
line_few [] (suc k) at ticks = zero-le
line_few (b ∷ l) (suc k) at ticks = omega (arith, line_few l k (suc at) ticks)
line_few (b ∷ l) zero at ticks = go (element_at ticks (b ∷ l)) refl (λ (k : ℕ) (t : Bool). line_few l k (suc at) t)
  where
    go : (f : Front) → element_at ticks (b ∷ l) ≡ f → ((k : ℕ) (t : Bool) → length (line_rows k (suc at) t l) ≤ length l) → length (line_rows 0 at ticks (b ∷ l)) ≤ suc (length l)
    go (Skip n) e r = rw (e, line_rows) (omega (arith, r (pred n) ticks))
    go (Element k n) e r = rw (e, line_rows) (suc-le-suc (r (pred n) (ticks_after k)))
