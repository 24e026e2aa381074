-- The leaves of the rows, read in order, are the elements in order, each once and each on its owner: by what stands before a row, in it and
-- after it. Assumes nothing.
use Prim.Native.Nat.{ℕ, zero, suc, ◌+◌, ◌-◌, ◌≤◌, ◌<◌}
use mathlib.Core.Path.{◌≡◌, refl, sym, ◌∙◌, ap, ap₂}
use mathlib.Core.Logic.{inl, inr}
use mathlib.Core.Bool.{Bool, true, false, cond}
use mathlib.Core.List.{List, [], ◌∷◌, ◌++◌, append_assoc, append-nil}
use native.Mathlib.Omega.{arith}
use lib.ListN.{length, length-append}
use Rattle.forms.specs.Tree.{Row, Forest, bare, tree}
use Rattle.forms.specs.code.RuleActions.{State, state_rows, Reading}
use Rattle.forms.specs.Owners.{spans, owner_from, NoneSpans, hung, leaves_in, LeavesAre}
use Rattle.forms.proofs.Growing.{forest_le, rows_forest}
use Rattle.forms.proofs.Owners.{is_spans, not_spans, nowhere, none_append, none_out}

hung_same : (f g : ℕ → ℕ) (lo c : ℕ) → ((i : ℕ) → lo ≤ i → i < lo + c → f i ≡ g i) → hung f lo c ≡ hung g lo c
hung_same f g lo zero h = refl
hung_same f g lo (suc c) h =
    ap₂ (λ (x : ℕ) (l : List (ℕ × ℕ)). (x, lo) ∷ l) (h lo (omega arith) (omega arith)) (hung_same f g (suc lo) c (λ i a b. h i (omega arith) (omega arith)))

hung_append : (f : ℕ → ℕ) (lo c d : ℕ) → hung f lo c ++ hung f (lo + c) d ≡ hung f lo (c + d)
hung_append f lo zero d =
    let z : lo + 0 ≡ lo = omega arith in
    let y : 0 + d ≡ d = omega arith in
    ap (λ (x : ℕ). hung f x d) z ∙ ap (hung f lo) (sym y)
hung_append f lo (suc c) d =
    let z : lo + suc c ≡ suc lo + c = omega arith in
    let y : suc c + d ≡ suc (c + d) = omega arith in
    ap (λ (x : ℕ). (f lo, lo) ∷ (hung f (suc lo) c ++ hung f x d)) z
    ∙ ap (λ (l : List (ℕ × ℕ)). (f lo, lo) ∷ l) (hung_append f (suc lo) c d)
    ∙ ap (hung f lo) (sym y)

-- two stretches that meet
joins : (f : ℕ → ℕ) (lo mid hi : ℕ) → lo ≤ mid → mid ≤ hi → hung f lo (mid - lo) ++ hung f mid (hi - mid) ≡ hung f lo (hi - lo)
joins f lo mid hi a b =
    let z : mid ≡ lo + (mid - lo) = omega arith in
    let y : mid - lo + (hi - mid) ≡ hi - lo = omega arith in
    ap (λ (x : ℕ). hung f lo (mid - lo) ++ hung f x (hi - mid)) z ∙ hung_append f lo (mid - lo) (hi - mid) ∙ ap (hung f lo) y

-- rows one after the other: the last that spans an element is one of the second, or else of the first
owner_append : (i next found : ℕ) (l m : List Row) → owner_from next found i (l ++ m) ≡ owner_from (next + length l) (owner_from next found i l) i m
owner_append i next found [] m = let z : next ≡ next + 0 = omega arith in ap (λ (x : ℕ). owner_from x found i m) z
owner_append i next found (r ∷ l) m =
    let z : suc next + length l ≡ next + suc (length l) = omega arith in
    let f : ℕ = cond (spans i r) next found in
    owner_append i (suc next) f l m ∙ ap (λ (x : ℕ). owner_from x (owner_from (suc next) f i l) i m) z

-- the rows of the child before are passed over
skipped : (row next left lo hi : ℕ) (x z : List Row) → leaves_in row next (length x + left) (length x) lo hi (x ++ z) ≡ leaves_in row (next + length x) left 0 lo hi z
unfolding leaves_in
skipped row next left lo hi [] z =
    let e : next ≡ next + 0 = omega arith in
    let d : 0 + left ≡ left = omega arith in
    ap₂ (λ (n m : ℕ). leaves_in row n m 0 lo hi z) e d
skipped row next left lo hi (r ∷ x) z =
    let e : suc next + length x ≡ next + suc (length x) = omega arith in
    let d : suc (length x) + left ≡ suc (length x + left) = omega arith in
    ap (λ (m : ℕ). leaves_in row next m (suc (length x)) lo hi (r ∷ (x ++ z))) d
    ∙ skipped row (suc next) left lo hi x z
    ∙ ap (λ (n : ℕ). leaves_in row n left 0 lo hi z) e

-- what no row has left hangs on the row itself
alone : (row next lo hi : ℕ) (z : List Row) → leaves_in row next 0 0 lo hi z ≡ hung (λ i. row) lo (hi - lo)
unfolding leaves_in
alone row next lo hi [] = refl
alone row next lo hi (r ∷ z) = refl

module _ (row next : ℕ) {lo hi : ℕ} (r : Row) (x y : List Row) (a : lo ≤ r.first) (f : Forest r.first (r.first + r.count) x) (g : Forest (r.first + r.count) hi y) where
  abbrev end : ℕ
  end = r.first + r.count

  abbrev whole : ℕ → ℕ
  whole i = owner_from next row i (r ∷ (x ++ y))

  -- an element before the row, in it and after it
  before : (i : ℕ) → lo ≤ i → i < lo + (r.first - lo) → row ≡ whole i
  before i b c =
      let n : NoneSpans i (r ∷ (x ++ y)) = (not_spans i r (inl (omega arith)), none_append i x y (none_out i f (inl (omega arith))) (none_out i g (inl (omega (arith, forest_le f))))) in
      sym (nowhere i next row (r ∷ (x ++ y)) n)

  within : (i : ℕ) → r.first ≤ i → i < r.first + (end - r.first) → owner_from (suc next) next i x ≡ whole i
  within i b c =
      let s : spans i r ≡ true = is_spans i r b (omega (arith, forest_le f)) in
      sym (ap (λ (t : Bool). owner_from (suc next) (cond t next row) i (x ++ y)) s
      ∙ owner_append i (suc next) next x y
      ∙ nowhere i (suc next + length x) (owner_from (suc next) next i x) y (none_out i g (inl (omega (arith, forest_le f)))))

  behind : (i : ℕ) → end ≤ i → i < end + (hi - end) → owner_from (suc next + length x) row i y ≡ whole i
  behind i b c =
      let s : spans i r ≡ false = not_spans i r (inr b) in
      sym (ap (λ (t : Bool). owner_from (suc next) (cond t next row) i (x ++ y)) s
      ∙ owner_append i (suc next) row x y
      ∙ ap (λ (n : ℕ). owner_from (suc next + length x) n i y) (nowhere i (suc next) row x (none_out i f (inr b))))

leaves_owned : (row next : ℕ) {lo hi : ℕ} {l : List Row} → Forest lo hi l → (z : List Row) → leaves_in row next (length l) 0 lo hi (l ++ z) ≡ hung (λ i. owner_from next row i l) lo (hi - lo)
unfolding leaves_in
leaves_owned row next (bare {lo = lo} {hi = hi} h) z = alone row next lo hi z
leaves_owned row next (tree {lo = lo} {hi = hi} {r = r} {inside = x} {after = y} {rest = l} a f e g j) z =
    let end : ℕ = r.first + r.count in
    let u : r.rows - 1 ≡ length x = omega arith in
    let v : length l ≡ length x + length y = ap length (sym j) ∙ length-append x y in
    let k : l ++ z ≡ x ++ (y ++ z) = ap (λ (m : List Row). m ++ z) (sym j) ∙ append_assoc x y z in
    let whole : ℕ → ℕ = λ i. owner_from next row i (r ∷ (x ++ y)) in
    let child : leaves_in next (suc next) (r.rows - 1) 0 r.first end (l ++ z) ≡ hung whole r.first (end - r.first) =
    ap₂ (λ (n : ℕ) (m : List Row). leaves_in next (suc next) n 0 r.first end m) u k
    ∙ leaves_owned next (suc next) f (y ++ z)
    ∙ hung_same (λ i. owner_from (suc next) next i x) whole r.first (end - r.first) (within row next r x y a f g) in
    let rest : leaves_in row (suc next) (length l) (r.rows - 1) end hi (l ++ z) ≡ hung whole end (hi - end) =
    ap₂ (λ (n : ℕ) (m : List Row). leaves_in row (suc next) n (r.rows - 1) end hi m) v k
    ∙ ap (λ (n : ℕ). leaves_in row (suc next) (length x + length y) n end hi (x ++ (y ++ z))) u
    ∙ skipped row (suc next) (length y) end hi x (y ++ z)
    ∙ leaves_owned row (suc next + length x) g z
    ∙ hung_same (λ i. owner_from (suc next + length x) row i y) whole end (hi - end) (behind row next r x y a f g) in
    ap₂ (λ (p q : List (ℕ × ℕ)). p ++ q) (hung_same (λ i. row) whole lo (r.first - lo) (before row next r x y a f g))
    (ap₂ (λ (p q : List (ℕ × ℕ)). p ++ q) child rest ∙ joins whole r.first end hi (forest_le f) (forest_le g))
    ∙ joins whole lo r.first hi a (omega (arith, forest_le f, forest_le g))
    ∙ ap (λ (m : List Row). hung (λ i. owner_from next row i (r ∷ m)) lo (hi - lo)) j

pub leaves_are : (alike : ℕ → ℕ → Bool) (w : List ℕ) (s : State) → Reading alike w s → LeavesAre (length w) (state_rows s)
leaves_are alike w s r =
    let l : List Row = state_rows s in
    let z : length w - 0 ≡ length w = omega arith in
    ap (λ (m : List Row). leaves_in (length l) 0 (length l) 0 0 (length w) m) (sym (append-nil l))
    ∙ leaves_owned (length l) 0 (rows_forest alike w s r) []
    ∙ ap (hung (λ i. owner_from 0 (length l) i l) 0) z
