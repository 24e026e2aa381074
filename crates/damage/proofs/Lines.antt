-- The elements of a text around a change: they stand in order, those of the change apart from those above and those below, and they are the
-- text's, each at its line and place. Assumes nothing.
use Prim.Native.Nat.{ℕ, suc, ◌+◌, ◌≤◌, ◌<◌}
use mathlib.Core.Path.{◌≡◌, refl, ap, subst}
use mathlib.Core.Logic.{◌⊎◌, inl, inr}
use mathlib.Core.List.{List, [], ◌∷◌, ◌++◌}
use native.Mathlib.Omega.{arith}
use lib.ListN.{length, take, drop}
use Rattle.elements.specs.Kinds.{kind_number}
use Rattle.element_reading.specs.Rows.{ElementRow, lines_of, rows_of}
use Rattle.element_reading.specs.Promises.{InOrder}
use Rattle.element_reading.proofs.Promises.{stand_in_order}
use Rattle.damage.specs.PlacedElements.{In, LineNumber, Above, Changed, Below, Placed, placed_rows, placed_lines, placed, PlacedPiece}
use Rattle.damage.proofs.Order.{First, Rising, Apart, first_append, rising_append}

-- ---- the order of elements

-- a line is above the change, 0, of it, 1, or below it, 2; and it has its number there
abbrev pub region : LineNumber → ℕ
region (Above k) = 0
region (Changed k) = 1
region (Below k) = 2

abbrev pub number : LineNumber → ℕ
number (Above k) = k
number (Changed k) = k
number (Below k) = k

-- the order of places in a line, and of lines of a region
abbrev Inner : Placed → Placed → Type 0
Inner x y = (number x.line < number y.line) ⊎ ((number x.line ≡ number y.line) × (x.place < y.place))

abbrev pub Before : Placed → Placed → Type 0
Before x y = (region x.line < region y.line) ⊎ ((region x.line ≡ region y.line) × Inner x y)

inner_never : (x y : Placed) → x.line ≡ y.line → x.place ≡ y.place → Inner x y → ⊥
inner_never x y e f (inl h) = omega (arith, ap number e)
inner_never x y e f (inr h) = omega (arith, h.1)

pub before_apart : (x y : Placed) → x.line ≡ y.line → x.place ≡ y.place → Before x y → ⊥
before_apart x y e f (inl h) = omega (arith, ap region e)
before_apart x y e f (inr h) = inner_never x y e f h.1

pub before_never : (x : Placed) → Before x x → ⊥
before_never x h = before_apart x x refl refl h

inner_both : (x y z : Placed) → Inner x y → Inner y z → Inner x z
inner_both x y z (inl h) (inl k) = inl (omega arith)
inner_both x y z (inl h) (inr k) = inl (omega (arith, k.0))
inner_both x y z (inr h) (inl k) = inl (omega (arith, h.0))
inner_both x y z (inr h) (inr k) = inr (omega (arith, h.0, k.0), omega (arith, h.1, k.1))

pub before_both : (x y z : Placed) → Before x y → Before y z → Before x z
before_both x y z (inl h) (inl k) = inl (omega arith)
before_both x y z (inl h) (inr k) = inl (omega (arith, k.0))
before_both x y z (inr h) (inl k) = inl (omega (arith, h.0))
before_both x y z (inr h) (inr k) = inr (omega (arith, h.0, k.0), inner_both x y z h.1 k.1)

-- elements of the region r, whose lines are m at least
abbrev pub Lying : ℕ → ℕ → PlacedPiece → Type 0
Lying r m [] = Unit {0}
Lying r m (x ∷ p) = (region x.line ≡ r) × (m ≤ number x.line) × Lying r m p

pub lying_append : (r m : ℕ) (p q : PlacedPiece) → Lying r m p → Lying r m q → Lying r m (p ++ q)
lying_append r m [] q h k = k
lying_append r m (x ∷ p) q h k = (h.0, h.1, lying_append r m p q h.2 k)

pub lying_left : (r m : ℕ) (p q : PlacedPiece) → Lying r m (p ++ q) → Lying r m p
lying_left r m [] q h = tt
lying_left r m (x ∷ p) q h = (h.0, h.1, lying_left r m p q h.2)

pub lying_right : (r m : ℕ) (p q : PlacedPiece) → Lying r m (p ++ q) → Lying r m q
lying_right r m [] q h = h
lying_right r m (x ∷ p) q h = lying_right r m p q h.2

pub lying_in : (r m : ℕ) (x : Placed) (p : PlacedPiece) → Lying r m p → In x p → (region x.line ≡ r) × (m ≤ number x.line)
lying_in r m x [] h k = elim k [ ]
lying_in r m x (y ∷ p) h (inl e) = subst (λ z. (region z.line ≡ r) × (m ≤ number z.line)) e (h.0, h.1)
lying_in r m x (y ∷ p) h (inr k) = lying_in r m x p h.2 k

lying_wider : (r m n : ℕ) (p : PlacedPiece) → m ≤ n → Lying r n p → Lying r m p
lying_wider r m n [] l h = tt
lying_wider r m n (x ∷ p) l h = (h.0, omega (arith, h.1), lying_wider r m n p l h.2)

-- further down in a region, and in a later one
lying_first : (x : Placed) (r m : ℕ) (q : PlacedPiece) → region x.line ≡ r → number x.line < m → Lying r m q → First Before x q
lying_first x r m [] e h k = tt
lying_first x r m (y ∷ q) e h k = (inr (omega (arith, k.0), inl (omega (arith, k.1))), lying_first x r m q e h k.2)

later_first : (x : Placed) (r m : ℕ) (q : PlacedPiece) → region x.line < r → Lying r m q → First Before x q
later_first x r m [] e k = tt
later_first x r m (y ∷ q) e k = (inl (omega (arith, k.0)), later_first x r m q e k.2)

later_apart : (r m q n : ℕ) (p l : PlacedPiece) → r < q → Lying r m p → Lying q n l → Apart Before p l
later_apart r m q n [] l h f g = tt
later_apart r m q n (x ∷ p) l h f g = (later_first x q n l (omega (arith, f.0)) g, later_apart r m q n p l h f.2 g)

-- a row of a line, with its place
abbrev placed_row : LineNumber → List ℕ → ElementRow → Placed
placed_row n l q = record { line = n; place = q.first; element = record { kind = kind_number q.kind; bytes = take q.size (drop q.first l) } }

-- the lines of one region
module _ (of : ℕ → LineNumber) (r : ℕ) (here : (k : ℕ) → region (of k) ≡ r) (counts : (k : ℕ) → number (of k) ≡ k) where
  rows_lying : (n : ℕ) (l : List ℕ) (rs : List ElementRow) → Lying r n (placed_rows (of n) l rs)
  unfolding placed_rows
  rows_lying n l [] = tt
  rows_lying n l (q ∷ rs) = (here n, omega (arith, counts n), rows_lying n l rs)

  pub lines_lying : (n : ℕ) (ls : List (List ℕ)) → Lying r n (placed_lines of n ls)
  unfolding placed_lines
  lines_lying n [] = tt
  lines_lying n (l ∷ ls) =
      lying_append r n (placed_rows (of n) l (rows_of l)) (placed_lines of (suc n) ls) (rows_lying n l (rows_of l)) (lying_wider r n (suc n) (placed_lines of (suc n) ls) (omega arith) (lines_lying (suc n) ls))

  rows_first : (n : ℕ) (l : List ℕ) (x : Placed) (at end : ℕ) (rs : List ElementRow) → x.line ≡ of n → x.place < at → InOrder at rs end → First Before x (placed_rows (of n) l rs)
  unfolding placed_rows
  rows_first n l x at end [] e k h = tt
  rows_first n l x at end (q ∷ rs) e k h =
      (inr (ap region e, inr (ap number e, omega (arith, h.0))), rows_first n l x (q.first + q.size) end rs e (omega (arith, h.0)) h.2)

  rows_rising : (n : ℕ) (l : List ℕ) (at end : ℕ) (rs : List ElementRow) → InOrder at rs end → Rising Before (placed_rows (of n) l rs)
  unfolding placed_rows
  rows_rising n l at end [] h = tt
  rows_rising n l at end (q ∷ rs) h = (rows_first n l (placed_row (of n) l q) (q.first + q.size) end rs refl (omega (arith, h.1)) h.2, rows_rising n l (q.first + q.size) end rs h.2)

  rows_apart : (n : ℕ) (l : List ℕ) (rs : List ElementRow) (p : PlacedPiece) → Lying r (suc n) p → Apart Before (placed_rows (of n) l rs) p
  unfolding placed_rows
  rows_apart n l [] p h = tt
  rows_apart n l (q ∷ rs) p h = (lying_first (placed_row (of n) l q) r (suc n) p (here n) (omega (arith, counts n)) h, rows_apart n l rs p h)

  -- the elements of lines stand in order
  pub lines_rising : (n : ℕ) (ls : List (List ℕ)) → Rising Before (placed_lines of n ls)
  unfolding placed_lines
  lines_rising n [] = tt
  lines_rising n (l ∷ ls) =
      rising_append Before (placed_rows (of n) l (rows_of l)) (placed_lines of (suc n) ls) (rows_rising n l 0 (length l) (rows_of l) (stand_in_order l)) (lines_rising (suc n) ls)
      (rows_apart n l (rows_of l) (placed_lines of (suc n) ls) (lines_lying (suc n) ls))

-- the elements above a change, of it and below it
abbrev pub uppers : List ℕ → PlacedPiece
uppers before = placed_lines Above 0 (lines_of before)

abbrev pub middles : List ℕ → PlacedPiece
middles middle = placed_lines Changed 0 (lines_of middle)

abbrev pub lowers : List ℕ → PlacedPiece
lowers after = placed_lines Below 0 (lines_of after)

pub uppers_lie : (before : List ℕ) → Lying 0 0 (uppers before)
uppers_lie before = lines_lying Above 0 (λ k. refl) (λ k. refl) 0 (lines_of before)

pub middles_lie : (middle : List ℕ) → Lying 1 0 (middles middle)
middles_lie middle = lines_lying Changed 1 (λ k. refl) (λ k. refl) 0 (lines_of middle)

pub lowers_lie : (after : List ℕ) → Lying 2 0 (lowers after)
lowers_lie after = lines_lying Below 2 (λ k. refl) (λ k. refl) 0 (lines_of after)

apart_append : (p l m : PlacedPiece) → Apart Before p l → Apart Before p m → Apart Before p (l ++ m)
apart_append [] l m f g = tt
apart_append (x ∷ p) l m f g = (first_append Before x l m f.0 g.0, apart_append p l m f.1 g.1)

pub placed_rising : (before middle after : List ℕ) → Rising Before (placed before middle after)
unfolding placed
placed_rising before middle after =
    rising_append Before (uppers before) (middles middle ++ lowers after) (lines_rising Above 0 (λ k. refl) (λ k. refl) 0 (lines_of before))
    (rising_append Before (middles middle) (lowers after) (lines_rising Changed 1 (λ k. refl) (λ k. refl) 0 (lines_of middle)) (lines_rising Below 2 (λ k. refl) (λ k. refl) 0 (lines_of after))
    (later_apart 1 0 2 0 (middles middle) (lowers after) (omega arith) (middles_lie middle) (lowers_lie after)))
    (apart_append (uppers before) (middles middle) (lowers after)
    (later_apart 0 0 1 0 (uppers before) (middles middle) (omega arith) (uppers_lie before) (middles_lie middle))
    (later_apart 0 0 2 0 (uppers before) (lowers after) (omega arith) (uppers_lie before) (lowers_lie after)))
