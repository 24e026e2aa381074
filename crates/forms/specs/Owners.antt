-- On which row an element hangs, and the leaves of the rows (01, "Forms of the strict reading": "Elements of a row outside its children hang
-- on it directly, as leaves."): functions of the rows alone. Assumes nothing: these are definitions, and proofs/Owners.antt and
-- proofs/Leaves.antt have the proofs.
use Rattle.std.specs.Prelude.{ℕ, zero, suc, ◌+◌, ◌-◌, ◌≤◌, ◌<◌, ◌≡◌, Bool, false, ◌&&◌, cond, List, [], ◌∷◌, ◌++◌, T, leb, ltb, length}
use Rattle.forms.specs.Tree.{Row, EachRow}
use Rattle.forms.specs.FormLines.{at, own_items, IsAmong}

-- the row spans element i
abbrev pub spans : ℕ → Row → Bool
spans i r = leb r.first i && ltb i (r.first + r.count)

-- The innermost row that spans element i: rows stand parent first, so it is the last that does. Rows count from `next`; `found` is the
-- last one before these.
abbrev pub owner_from : (next found i : ℕ) → List Row → ℕ
owner_from next found i [] = found
owner_from next found i (r ∷ l) = owner_from (suc next) (cond (spans i r) next found) i l

-- by its number, from 0; the count of the rows if none spans it
abbrev pub owner : ℕ → List Row → ℕ
owner i l = owner_from 0 (length l) i l

abbrev pub NoneSpans : ℕ → List Row → Type 0
NoneSpans i [] = Unit {0}
NoneSpans i (r ∷ l) = (spans i r ≡ false) × NoneSpans i l

-- the span of the one row holds that of the other
abbrev pub Holds : Row → Row → Type 0
Holds r o = (r.first ≤ o.first) × (o.first + o.count ≤ r.first + r.count)

-- Element i hangs on the row that `owner` says, the last that spans it: every other that does holds that row's span. It is one of the
-- row's own items.
pub record Owned (w : List ℕ) (l : List Row) (i : ℕ) : Type 0 where
  pub before : List Row
  pub on : Row
  pub behind : List Row
  pub is : l ≡ before ++ (on ∷ behind)
  pub number : owner i l ≡ length before
  pub spanned : T (spans i on)
  pub last : NoneSpans i behind
  pub innermost : EachRow (λ r. T (spans i r) → Holds r on) before
  pub own : IsAmong (at i) (own_items w on behind)

-- so does every element
abbrev pub AllOwned : List ℕ → List Row → Type 0
AllOwned w l = (i : ℕ) → i < length w → Owned w l i

-- and on no other: an element that is one of a row's own items has that row for its owner
abbrev pub OwnedOnce : List ℕ → List Row → Type 0
OwnedOnce w l = (before : List Row) (on : Row) (behind : List Row) → l ≡ before ++ (on ∷ behind) → (i : ℕ) → IsAmong (at i) (own_items w on behind) → owner i l ≡ length before

-- c elements from lo on, each after the row that it hangs on
abbrev pub hung : (ℕ → ℕ) → (lo c : ℕ) → List (ℕ × ℕ)
hung on lo zero = []
hung on lo (suc c) = (on lo, lo) ∷ hung on (suc lo) c

-- The leaves of row number `row` and of the rows inside it, read from element lo up to hi. Of the rows l, the first of which is number
-- `next`, the first `left` are inside it, parent first; `skip` of these still belong to the child before. What stands outside the children
-- hangs on the row itself; where a child stands, its own leaves are read.
unfoldable pub leaves_in : (row next left skip lo hi : ℕ) → List Row → List (ℕ × ℕ)
leaves_in row next left skip lo hi [] = hung (λ i. row) lo (hi - lo)
leaves_in row next zero skip lo hi (r ∷ l) = hung (λ i. row) lo (hi - lo)
leaves_in row next (suc left) zero lo hi (r ∷ l) =
    hung (λ i. row) lo (r.first - lo)
    ++ (leaves_in next (suc next) (r.rows - 1) 0 r.first (r.first + r.count) l
    ++ leaves_in row (suc next) left (r.rows - 1) (r.first + r.count) hi l)
leaves_in row next (suc left) (suc skip) lo hi (r ∷ l) = leaves_in row (suc next) left skip lo hi l

-- the leaves of the rows of n elements, read in order, each a row's number and an element: what no row spans would hang on none, told as
-- in `owner` by the count of the rows
abbrev pub leaves_of : ℕ → List Row → List (ℕ × ℕ)
leaves_of n l = leaves_in (length l) 0 (length l) 0 0 n l

-- The leaves of the rows, read in order, are the elements, each once, and each hangs on its owner.
abbrev pub LeavesAre : ℕ → List Row → Type 0
LeavesAre n l = leaves_of n l ≡ hung (λ i. owner i l) 0 n
