-- Every element hangs on the innermost row that spans it, and is one of that row's own items. Assumes nothing.
use Prim.Native.Nat.{ℕ, zero, suc, ◌+◌, ◌-◌, ◌≤◌, ◌<◌}
use mathlib.Core.Path.{◌≡◌, refl, sym, ◌∙◌, ap, subst}
use mathlib.Core.Logic.{◌⊎◌, inl, inr, ⊎_elim}
use mathlib.Core.Bool.{Bool, true, false, cond}
use mathlib.Core.List.{List, [], ◌∷◌, ◌++◌}
use native.Mathlib.Omega.{arith}
use lib.Dec.{T, leb, ltb, leb→le}
use lib.ListN.{length, take, length-append}
use borrow.Author.Tests.{le-leb}
use Rattle.laws.proofs.Laws.{clash}
use Rattle.grammars.proofs.Theory.{and_left, and_right}
use Rattle.forms.specs.Tree.{Row, EachRow, Forest, bare, tree}
use Rattle.forms.specs.code.RuleActions.{State, state_rows, Reading}
use Rattle.forms.specs.Files.{Tiled, none, unit}
use Rattle.forms.specs.FormLines.{OwnItem, at, row, elements, sort_of, items_in, own_items, IsAmong}
use Rattle.forms.specs.Owners.{spans, owner_from, NoneSpans, Holds, Owned, AllOwned, OwnedOnce}
use Rattle.forms.proofs.Growing.{forest_le, rows_forest}
use Rattle.forms.proofs.Tiling.{rows_tiled}
use Rattle.forms.proofs.Fitting.{take_less, take_all, behind_tree}

-- what `spans` says
spans_is : (i : ℕ) (r : Row) → T (spans i r) → (r.first ≤ i) × (i < r.first + r.count)
spans_is i r h =
    let a = leb r.first i in
    let b = ltb i (r.first + r.count) in
    (leb→le r.first i (and_left a b h), leb→le (suc i) (r.first + r.count) (and_right a b h))

pub is_spans : (i : ℕ) (r : Row) → r.first ≤ i → i < r.first + r.count → spans i r ≡ true
is_spans i r a b = rw (le-leb r.first i a, le-leb (suc i) (r.first + r.count) b)

-- an element that no row spans is an item
in_left : (x : OwnItem) (l m : List OwnItem) → IsAmong x l → IsAmong x (l ++ m)
in_left x [] m h = absurd h
in_left x (y ∷ l) m (inl e) = inl e
in_left x (y ∷ l) m (inr h) = inr (in_left x l m h)

in_right : (x : OwnItem) (l m : List OwnItem) → IsAmong x m → IsAmong x (l ++ m)
in_right x [] m h = h
in_right x (y ∷ l) m h = inr (in_right x l m h)

in_elements : (i lo c : ℕ) → lo ≤ i → i < lo + c → IsAmong (at i) (elements lo c)
in_elements i lo zero a b = absurd (omega arith)
in_elements i lo (suc c) a b = by (cases lo i a) (λ h. in_elements i (suc lo) c h (omega arith))
  where
    cases : (lo i : ℕ) → lo ≤ i → (lo ≡ i) ⊎ (suc lo ≤ i)
    cases zero zero h = inl refl
    cases zero (suc i) h = inr (omega arith)
    cases (suc lo) zero h = absurd (omega arith)
    cases (suc lo) (suc i) h = ⊎_elim (λ e. inl (ap suc e)) (λ l. inr (omega arith)) (cases lo i (omega arith))

    by : (lo ≡ i) ⊎ (suc lo ≤ i) → (suc lo ≤ i → IsAmong (at i) (elements (suc lo) c)) → IsAmong (at i) (at lo ∷ elements (suc lo) c)
    by (inl e) ih = inl (ap at (sym e))
    by (inr h) ih = inr (ih h)

-- i is before or not
side : (n i : ℕ) → (i < n) ⊎ (n ≤ i)
side zero i = inr (omega arith)
side (suc n) zero = inl (omega arith)
side (suc n) (suc i) = ⊎_elim (λ h. inl (omega arith)) (λ h. inr (omega arith)) (side n i)

in_items : (w : List ℕ) (i skip lo hi : ℕ) (l : List Row) → lo ≤ i → i < hi → NoneSpans i l → IsAmong (at i) (items_in w skip lo hi l)
in_items w i skip lo hi [] a b n = in_elements i lo (hi - lo) a (omega arith)
in_items w i zero lo hi (r ∷ l) a b n =
    by (side r.first i) (side (r.first + r.count) i) (λ c. in_items w i (r.rows - 1) (r.first + r.count) hi l c b n.1)
  where
    E : List OwnItem
    E = elements lo (r.first - lo)

    X : List OwnItem
    X = items_in w (r.rows - 1) (r.first + r.count) hi l

    by : (i < r.first) ⊎ (r.first ≤ i) → (i < r.first + r.count) ⊎ (r.first + r.count ≤ i) → (r.first + r.count ≤ i → IsAmong (at i) X) → IsAmong (at i) (E ++ (row (sort_of w r) ∷ X))
    by (inl h) k ih = in_left (at i) E (row (sort_of w r) ∷ X) (in_elements i lo (r.first - lo) a (omega arith))
    by (inr h) (inl k) ih = let z : true ≡ false = sym (is_spans i r h k) ∙ n.0 in let y : ◌≡◌ {A = ℕ} 0 1 = cc in clash y
    by (inr h) (inr k) ih = in_right (at i) E (row (sort_of w r) ∷ X) (inr (ih k))
in_items w i (suc skip) lo hi (r ∷ l) a b n = in_items w i skip lo hi l a b n.1

none_take : (i n : ℕ) (l : List Row) → NoneSpans i l → NoneSpans i (take n l)
none_take i zero l h = tt
none_take i (suc n) [] h = tt
none_take i (suc n) (r ∷ l) h = (h.0, none_take i n l h.1)

-- the last row that spans it
record Last (i : ℕ) (next found : ℕ) (l : List Row) : Type 0 where
  pub before : List Row
  pub on : Row
  pub behind : List Row
  pub is : l ≡ before ++ (on ∷ behind)
  pub number : owner_from next found i l ≡ next + length before
  pub spanned : T (spans i on)
  pub last : NoneSpans i behind

pub nowhere : (i next found : ℕ) (l : List Row) → NoneSpans i l → owner_from next found i l ≡ found
nowhere i next found [] h = refl
nowhere i next found (r ∷ l) h = ap (λ (b : Bool). owner_from (suc next) (cond b next found) i l) h.0 ∙ nowhere i (suc next) found l h.1

find : (i next found : ℕ) (l : List Row) → Last i next found l ⊎ NoneSpans i l
find i next found [] = inr tt
find i next found (r ∷ l) = by (spans i r) refl (find i (suc next) (cond (spans i r) next found) l)
  where
    by : (b : Bool) → spans i r ≡ b → Last i (suc next) (cond (spans i r) next found) l ⊎ NoneSpans i l → Last i next found (r ∷ l) ⊎ NoneSpans i (r ∷ l)
    by b e (inl h) =
        inl (record {
          before = r ∷ h.before;
          on = h.on;
          behind = h.behind;
          is = ap (λ (m : List Row). r ∷ m) h.is;
          number = h.number ∙ omega arith;
          spanned = h.spanned;
          last = h.last;
        })
    by true e (inr h) =
        inl (record {
          before = [];
          on = r;
          behind = l;
          is = refl;
          number = ap (λ (b : Bool). owner_from (suc next) (cond b next found) i l) e ∙ nowhere i (suc next) next l h ∙ omega arith;
          spanned = subst T (sym e) tt;
          last = h;
        })
    by false e (inr h) = inr (e, h)

none_behind : (i : ℕ) (l m : List Row) → NoneSpans i (l ++ m) → NoneSpans i m
none_behind i [] m h = h
none_behind i (r ∷ l) m h = none_behind i l m h.1

-- one of the units does
not_none : (i : ℕ) {lo hi : ℕ} {l : List Row} → Tiled lo hi l → lo ≤ i → i < hi → NoneSpans i l → ⊥
not_none i (none e) a b n = absurd (omega arith)
not_none i (unit {lo = lo} {hi = hi} {r = r} {inside = x} {after = y} d f c g j) a b n =
    by (side (r.first + r.count) i) (λ k. not_none i g k b (none_behind i x y (subst (NoneSpans i) (sym j) n.1)))
  where
    by : (i < r.first + r.count) ⊎ (r.first + r.count ≤ i) → (r.first + r.count ≤ i → ⊥) → ⊥
    by (inl k) ih = let z : true ≡ false = sym (is_spans i r (omega arith) k) ∙ n.0 in let y : ◌≡◌ {A = ℕ} 0 1 = cc in clash y
    by (inr k) ih = ih k

-- rows of a forest that span the same element: the later is within the earlier
each_append : (P : Row → Type 0) (l m : List Row) → EachRow P l → EachRow P m → EachRow P (l ++ m)
each_append P [] m a b = b
each_append P (r ∷ l) m a b = (a.0, each_append P l m a.1 b)

each_as : (P Q : Row → Type 0) (l : List Row) → ((r : Row) → P r → Q r) → EachRow P l → EachRow Q l
each_as P Q [] f h = tt
each_as P Q (r ∷ l) f h = (f r h.0, each_as P Q l f h.1)

each_pick : (P : Row → Type 0) (l : List Row) (r : Row) (m : List Row) → EachRow P (l ++ (r ∷ m)) → P r
each_pick P [] r m h = h.0
each_pick P (x ∷ l) r m h = each_pick P l r m h.1

bounds : {lo hi : ℕ} {l : List Row} → Forest lo hi l → EachRow (λ o. (lo ≤ o.first) × (o.first + o.count ≤ hi)) l
bounds (bare h) = tt
bounds (tree {lo = lo} {hi = hi} {r = r} {inside = x} {after = y} a f d g j) = (
  (a, forest_le g),
  subst (EachRow (λ o. (lo ≤ o.first) × (o.first + o.count ≤ hi))) j
      (each_append (λ o. (lo ≤ o.first) × (o.first + o.count ≤ hi)) x y
      (each_as (λ o. (r.first ≤ o.first) × (o.first + o.count ≤ r.first + r.count)) (λ o. (lo ≤ o.first) × (o.first + o.count ≤ hi)) x (λ o h. (omega (arith, h.0), omega (arith, h.1, forest_le g))) (bounds f))
      (each_as (λ o. (r.first + r.count ≤ o.first) × (o.first + o.count ≤ hi)) (λ o. (lo ≤ o.first) × (o.first + o.count ≤ hi)) y (λ o h. (omega (arith, h.0, forest_le f), h.1)) (bounds g))),
)

abbrev Contain : ℕ → ℕ → List Row → Type 0
Contain i hi [] = Unit {0}
Contain i hi (r ∷ l) = (r.first + r.count ≤ hi) × (T (spans i r) → EachRow (λ o. T (spans i o) → Holds r o) l) × Contain i hi l

-- a row after that spans no element before
beyond : (i mid : ℕ) (r : Row) (m : List Row) → i < mid → EachRow (λ o. mid ≤ o.first) m → EachRow (λ o. T (spans i o) → Holds r o) m
beyond i mid r [] h e = tt
beyond i mid r (o ∷ m) h e = ((λ t. absurd (omega (arith, (spans_is i o t).0, e.0))), beyond i mid r m h e.1)

contain_append : (i mid hi : ℕ) (l m : List Row) → mid ≤ hi → EachRow (λ o. mid ≤ o.first) m → Contain i mid l → Contain i hi m → Contain i hi (l ++ m)
contain_append i mid hi [] m c e a b = b
contain_append i mid hi (r ∷ l) m c e a b = (
  omega (arith, a.0),
  (λ t. each_append (λ o. T (spans i o) → Holds r o) l m (a.1 t) (beyond i mid r m (omega (arith, a.0, (spans_is i r t).1)) e)),
  contain_append i mid hi l m c e a.2 b,
)

contain : (i : ℕ) {lo hi : ℕ} {l : List Row} → Forest lo hi l → Contain i hi l
contain i (bare h) = tt
contain i (tree {lo = lo} {hi = hi} {r = r} {inside = x} {after = y} a f d g j) =
    let end : ℕ = r.first + r.count in
    let from : EachRow (λ o. end ≤ o.first) y = each_as (λ o. (end ≤ o.first) × (o.first + o.count ≤ hi)) (λ o. end ≤ o.first) y (λ o h. h.0) (bounds g) in
    subst (λ (m : List Row). Contain i hi (r ∷ m)) j (
      forest_le g,
      (λ t.
          each_append (λ o. T (spans i o) → Holds r o) x y
          (each_as (λ o. (r.first ≤ o.first) × (o.first + o.count ≤ end)) (λ o. T (spans i o) → Holds r o) x (λ o h u. h) (bounds f)) (beyond i end r y (spans_is i r t).1 from)),
      contain_append i end hi x y (forest_le g) from (contain i f) (contain i g),
    )

inner : (i hi : ℕ) (before : List Row) (on : Row) (behind : List Row) → T (spans i on) → Contain i hi (before ++ (on ∷ behind)) → EachRow (λ r. T (spans i r) → Holds r on) before
inner i hi [] on behind t h = tt
inner i hi (r ∷ before) on behind t h = ((λ u. each_pick (λ o. T (spans i o) → Holds r o) before on behind (h.1 u) t), inner i hi before on behind t h.2)

pub all_owned : (alike : ℕ → ℕ → Bool) (w : List ℕ) (s : State) → Reading alike w s → AllOwned w (state_rows s)
all_owned alike w s r i h = by (find i 0 (length (state_rows s)) (state_rows s))
  where
    by : Last i 0 (length (state_rows s)) (state_rows s) ⊎ NoneSpans i (state_rows s) → Owned w (state_rows s) i
    by (inl f) =
        let p = spans_is i f.on f.spanned in
        record {
          before = f.before;
          on = f.on;
          behind = f.behind;
          is = f.is;
          number = f.number ∙ omega arith;
          spanned = f.spanned;
          last = f.last;
          innermost = inner i (length w) f.before f.on f.behind f.spanned (subst (Contain i (length w)) f.is (contain i (rows_forest alike w s r)));
          own = in_items w i 0 f.on.first (f.on.first + f.on.count) (take (f.on.rows - 1) f.behind) p.0 p.1 (none_take i (f.on.rows - 1) f.behind f.last);
        }
    by (inr n) = absurd (not_none i (rows_tiled alike w s r) (omega arith) h n)

-- the other way: an own item is spanned by no row after its own
pub not_spans : (i : ℕ) (r : Row) → (i < r.first) ⊎ (r.first + r.count ≤ i) → spans i r ≡ false
not_spans i r h = by (spans i r) (spans_is i r) h
  where
    by : (b : Bool) → (T b → (r.first ≤ i) × (i < r.first + r.count)) → (i < r.first) ⊎ (r.first + r.count ≤ i) → b ≡ false
    by true f (inl h) = absurd (omega (arith, (f tt).0))
    by true f (inr h) = absurd (omega (arith, (f tt).1))
    by false f h = refl

pub none_append : (i : ℕ) (l m : List Row) → NoneSpans i l → NoneSpans i m → NoneSpans i (l ++ m)
none_append i [] m a b = b
none_append i (r ∷ l) m a b = (a.0, none_append i l m a.1 b)

pub none_out : (i : ℕ) {lo hi : ℕ} {l : List Row} → Forest lo hi l → (i < lo) ⊎ (hi ≤ i) → NoneSpans i l
none_out i (bare h) o = tt
none_out i (tree {lo = lo} {hi = hi} {r = r} {inside = x} {after = y} a f d g j) (inl o) = (
  not_spans i r (inl (omega arith)),
  subst (NoneSpans i) j (none_append i x y (none_out i f (inl (omega arith))) (none_out i g (inl (omega (arith, forest_le f))))),
)
none_out i (tree {lo = lo} {hi = hi} {r = r} {inside = x} {after = y} a f d g j) (inr o) = (
  not_spans i r (inr (omega (arith, forest_le g))),
  subst (NoneSpans i) j (none_append i x y (none_out i f (inr (omega (arith, forest_le g)))) (none_out i g (inr o))),
)

among_append : (x : OwnItem) (l m : List OwnItem) → IsAmong x (l ++ m) → IsAmong x l ⊎ IsAmong x m
among_append x [] m h = inr h
among_append x (y ∷ l) m (inl e) = inl (inl e)
among_append x (y ∷ l) m (inr h) = ⊎_elim (λ a. inl (inr a)) inr (among_append x l m h)

same_at : (i j : ℕ) → at i ≡ at j → i ≡ j
same_at i j e = ap number e
  where
    number : OwnItem → ℕ
    number (at k) = k
    number (row s) = 0

not_row : (i s : ℕ) → at i ≡ row s → ⊥
not_row i s e = subst Is e tt
  where
    Is : OwnItem → Type 0
    Is (at k) = Unit {0}
    Is (row t) = ⊥

among_elements : (i lo c : ℕ) → IsAmong (at i) (elements lo c) → (lo ≤ i) × (i < lo + c)
among_elements i lo zero h = absurd h
among_elements i lo (suc c) (inl e) = (omega (arith, same_at i lo e), omega (arith, same_at i lo e))
among_elements i lo (suc c) (inr h) = let k = among_elements i (suc lo) c h in (omega (arith, k.0), omega (arith, k.1))

own_none : (w : List ℕ) (i : ℕ) {lo hi : ℕ} {l : List Row} → Forest lo hi l → IsAmong (at i) (items_in w 0 lo hi l) → (lo ≤ i) × (i < hi) × NoneSpans i l
own_none w i (bare {lo = lo} {hi = hi} a) h = let k = among_elements i lo (hi - lo) h in (k.0, omega (arith, k.1), tt)
own_none w i (tree {lo = lo} {hi = hi} {r = r} {inside = x} {after = y} {rest = l} a f d g j) h =
    by (among_append (at i) (elements lo (r.first - lo)) (row (sort_of w r) ∷ X) h) (λ k. own_none w i g (subst (IsAmong (at i)) (behind_tree w r x y l end hi d j) k))
  where
    end : ℕ
    end = r.first + r.count

    X : List OwnItem
    X = items_in w (r.rows - 1) end hi l

    by : IsAmong (at i) (elements lo (r.first - lo)) ⊎ IsAmong (at i) (row (sort_of w r) ∷ X) → (IsAmong (at i) X → (end ≤ i) × (i < hi) × NoneSpans i y) → (lo ≤ i) × (i < hi) × NoneSpans i (r ∷ l)
    by (inl k) ih =
        let e = among_elements i lo (r.first - lo) k in
        let m : i < r.first = omega (arith, e.1, e.0) in
        (e.0, omega (arith, forest_le f, forest_le g), (not_spans i r (inl m), subst (NoneSpans i) j (none_append i x y (none_out i f (inl m)) (none_out i g (inl (omega (arith, forest_le f)))))))
    by (inr (inl e)) ih = absurd (not_row i (sort_of w r) e)
    by (inr (inr k)) ih =
        let e = ih k in
        (omega (arith, e.0, forest_le f), e.1, (not_spans i r (inr e.0), subst (NoneSpans i) j (none_append i x y (none_out i f (inr e.0)) e.2)))

abbrev OwnLast : List ℕ → ℕ → ℕ → List Row → Type 0
OwnLast w i hi [] = Unit {0}
OwnLast w i hi (r ∷ l) = (r.rows ≤ suc (length l)) × (r.first + r.count ≤ hi) × (IsAmong (at i) (own_items w r l) → T (spans i r) × NoneSpans i l) × OwnLast w i hi l

own_append : (w : List ℕ) (i mid hi : ℕ) (l m : List Row) → mid ≤ hi → (i < mid → NoneSpans i m) → OwnLast w i mid l → OwnLast w i hi m → OwnLast w i hi (l ++ m)
own_append w i mid hi [] m c n a b = b
own_append w i mid hi (r ∷ l) m c n a b =
    let z = a.0 in (
      omega (arith, length-append l m),
      omega (arith, a.1),
      (λ h.
          let k = a.2 (subst (λ (x : List Row). IsAmong (at i) (items_in w 0 r.first (r.first + r.count) x)) (take_less (r.rows - 1) l m (omega arith)) h) in
          (k.0, none_append i l m k.1 (n (omega (arith, (spans_is i r k.0).1, a.1))))),
      own_append w i mid hi l m c n a.3 b,
    )

own_last : (w : List ℕ) (i : ℕ) {lo hi : ℕ} {l : List Row} → Forest lo hi l → OwnLast w i hi l
own_last w i (bare h) = tt
own_last w i (tree {lo = lo} {hi = hi} {r = r} {inside = x} {after = y} {rest = l} a f d g j) =
    subst (λ (m : List Row). OwnLast w i hi (r ∷ m)) j (
      omega (arith, length-append x y),
      forest_le g,
      (λ h.
          let k = own_none w i f (subst (λ (m : List Row). IsAmong (at i) (items_in w 0 r.first end m)) taken h) in
          (subst T (sym (is_spans i r k.0 k.1)) tt, none_append i x y k.2 (none_out i g (inl k.1)))),
      own_append w i end hi x y (forest_le g) (λ k. none_out i g (inl k)) (own_last w i f) (own_last w i g),
    )
  where
    end : ℕ
    end = r.first + r.count

    taken : take (r.rows - 1) (x ++ y) ≡ x
    taken =
        let z : r.rows - 1 ≡ length x = omega arith in
        ap (λ (n : ℕ). take n (x ++ y)) z ∙ take_less (length x) x y (omega arith) ∙ take_all x

own_at : (w : List ℕ) (i hi : ℕ) (before : List Row) (on : Row) (behind : List Row) → OwnLast w i hi (before ++ (on ∷ behind)) → IsAmong (at i) (own_items w on behind) → T (spans i on) × NoneSpans i behind
own_at w i hi [] on behind h k = h.2 k
own_at w i hi (r ∷ before) on behind h k = own_at w i hi before on behind h.3 k

owner_at : (i next found : ℕ) (before : List Row) (on : Row) (behind : List Row) → T (spans i on) → NoneSpans i behind → owner_from next found i (before ++ (on ∷ behind)) ≡ next + length before
owner_at i next found [] on behind t n = by (spans i on) t ∙ nowhere i (suc next) next behind n ∙ omega arith
  where
    by : (b : Bool) → T b → owner_from (suc next) (cond b next found) i behind ≡ owner_from (suc next) next i behind
    by true t = refl
    by false t = absurd t
owner_at i next found (r ∷ before) on behind t n = owner_at i (suc next) (cond (spans i r) next found) before on behind t n ∙ omega arith

pub owned_once : (alike : ℕ → ℕ → Bool) (w : List ℕ) (s : State) → Reading alike w s → OwnedOnce w (state_rows s)
owned_once alike w s r before on behind e i h =
    let k = own_at w i (length w) before on behind (subst (OwnLast w i (length w)) e (own_last w i (rows_forest alike w s r))) h in
    ap (λ (l : List Row). owner_from 0 (length (state_rows s)) i l) e ∙ owner_at i 0 (length (state_rows s)) before on behind k.0 k.1 ∙ omega arith
