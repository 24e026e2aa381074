-- From rows that tile and fit to rows that are laid: the items of a forest cut as the patterns cut them. Assumes nothing.
use Prim.Native.Nat.{ℕ, zero, suc, ◌+◌, ◌-◌, ◌≤◌, ◌<◌}
use mathlib.Core.Path.{◌≡◌, refl, sym, ◌∙◌, ap, subst}
use mathlib.Core.List.{List, [], ◌∷◌, ◌++◌, append_assoc, append-nil}
use native.Mathlib.Omega.{arith}
use lib.Dec.{T}
use lib.ListN.{get_or, length, take, length-append}
use Rattle.laws.proofs.Laws.{clash}
use Rattle.forms.specs.code.Kinds.{number_of, left_paren, right_paren}
use Rattle.forms.specs.Tree.{Row, EachRow, Forest}
use Rattle.forms.specs.Tree as forest
use Rattle.forms.specs.Spellings.{is_in}
use Rattle.forms.specs.FormLines.{OwnItem, at, row, Pattern, operand, expressions, an_expression, form_line, IsOf, Fits, elements, sort_of, items_in, operator_at, RowsFit}
use Rattle.forms.specs.FormLines as lines
use Rattle.forms.proofs.Growing.{forest_le}
use Rattle.forms.proofs.Fitting.{take_all, take_less, behind_tree}
use Rattle.one_tree.specs.Trees.{ElseFirst}
use Rattle.one_tree.proofs.Covers.{Laid, none, element, child, bare, inside, then, left, right, no_more, more}

-- rows cut in two
each_front : (P : Row → Type 0) (l m : List Row) → EachRow P (l ++ m) → EachRow P l
each_front P [] m h = tt
each_front P (r ∷ l) m h = (h.0, each_front P l m h.1)

each_back : (P : Row → Type 0) (l m : List Row) → EachRow P (l ++ m) → EachRow P m
each_back P [] m h = h
each_back P (r ∷ l) m h = each_back P l m h.1

-- every row has its subtree after it
abbrev Sized : List Row → Type 0
Sized [] = Unit {0}
Sized (r ∷ l) = (r.rows ≤ suc (length l)) × Sized l

sized_append : (l m : List Row) → Sized l → Sized m → Sized (l ++ m)
sized_append [] m a b = b
sized_append (r ∷ l) m a b = let n = a.0 in (omega (arith, length-append l m), sized_append l m a.1 b)

sized : {lo hi : ℕ} {l : List Row} → Forest lo hi l → Sized l
sized (forest.Forest.bare h) = tt
sized (forest.Forest.tree {r = r} {inside = i} {after = a} u f d g j) =
    subst (λ (l : List Row). Sized (r ∷ l)) j (omega (arith, length-append i a), sized_append i a (sized f) (sized g))

module _ (W : List ℕ) where
  fit_front : (l m : List Row) → Sized l → RowsFit W (l ++ m) → RowsFit W l
  fit_front [] m s h = tt
  fit_front (r ∷ l) m s h =
      let n = s.0 in (
        s.0,
        subst (λ (x : List Row). Fits W (operator_at r) (form_line r.form) (items_in W 0 r.first (r.first + r.count) x)) (take_less (r.rows - 1) l m (omega arith)) h.1,
        fit_front l m s.1 h.2,
      )

  fit_back : (l m : List Row) → RowsFit W (l ++ m) → RowsFit W m
  fit_back [] m h = h
  fit_back (r ∷ l) m h = fit_back l m h.2

  -- a tree: a row from lo to hi, and the rows inside it
  pub record Child (lo hi : ℕ) (r : Row) (inside : List Row) : Type 0 where
    pub first : r.first ≡ lo
    pub end : r.first + r.count ≡ hi
    pub size : r.rows ≡ length inside + 1
    pub column : ElseFirst r
    pub columns : EachRow ElseFirst inside
    pub within : Forest lo hi inside
    pub fits : RowsFit W inside
    pub own : Fits W (operator_at r) (form_line r.form) (items_in W 0 lo hi inside)
    pub bound : hi ≤ length W

  -- elements and trees one after the other, from lo to hi, with their items
  pub data Nodes : ℕ → ℕ → List Row → List OwnItem → Type 0 where
    end : {lo hi : ℕ} → lo ≡ hi → Nodes lo hi [] []
    leaf : {lo hi : ℕ} {l : List Row} {x : List OwnItem} → lo < length W → Nodes (suc lo) hi l x → Nodes lo hi l (at lo ∷ x)
    tree : {lo mid hi : ℕ} {r : Row} {inside after rest : List Row} {x : List OwnItem} → Child lo mid r inside → Nodes mid hi after x → inside ++ after ≡ rest
        → Nodes lo hi (r ∷ rest) (row (sort_of W r) ∷ x)

  leaves : (c lo hi : ℕ) (l : List Row) (x : List OwnItem) → lo + c ≤ length W → Nodes (lo + c) hi l x → Nodes lo hi l (elements lo c ++ x)
  leaves zero lo hi l x h n = let y : lo + 0 ≡ lo = omega arith in subst (λ (i : ℕ). Nodes i hi l x) y n
  leaves (suc c) lo hi l x h n =
      let y : lo + suc c ≡ suc lo + c = omega arith in
      leaf {lo = lo} (omega arith) (leaves c (suc lo) hi l x (omega arith) (subst (λ (i : ℕ). Nodes i hi l x) y n))

  pub nodes : {lo hi : ℕ} {l : List Row} → Forest lo hi l → hi ≤ length W → RowsFit W l → EachRow ElseFirst l → Nodes lo hi l (items_in W 0 lo hi l)
  nodes {lo = lo} {hi = hi} (forest.Forest.bare h) b f c =
      subst (λ (x : List OwnItem). Nodes lo hi [] x) (append-nil (elements lo (hi - lo))) (leaves (hi - lo) lo hi [] [] (omega arith) (end {lo = lo + (hi - lo)} {hi = hi} (omega arith)))
  nodes {lo = lo} {hi = hi} (forest.Forest.tree {r = r} {inside = i} {after = a} {rest = l} u f d g j) b h c =
      let stop : ℕ = r.first + r.count in
      let y : lo + (r.first - lo) ≡ r.first = omega arith in
      let n : r.rows - 1 ≡ length i = omega arith in
      let both = subst (RowsFit W) (sym j) h.2 in
      let cols = subst (EachRow ElseFirst) (sym j) c.1 in
      let le = forest_le g in
      let le₁ = forest_le f in
      let taken : take (r.rows - 1) l ≡ i = ap (take (r.rows - 1)) (sym j) ∙ ap (λ (m : ℕ). take m (i ++ a)) n ∙ take_less (length i) i a (omega arith) ∙ take_all i in
      leaves (r.first - lo) lo hi (r ∷ l) (row (sort_of W r) ∷ items_in W (r.rows - 1) stop hi l) (omega arith)
      (subst (λ (k : ℕ). Nodes k hi (r ∷ l) (row (sort_of W r) ∷ items_in W (r.rows - 1) stop hi l)) (sym y)
      (tree {mid = stop} {r = r} {inside = i} {after = a}
      (record {
        first = refl;
        end = refl;
        size = d;
        column = c.0;
        columns = each_front ElseFirst i a cols;
        within = f;
        fits = fit_front i a (sized f) both;
        own = subst (λ (x : List Row). Fits W (operator_at r) (form_line r.form) (items_in W 0 r.first stop x)) taken h.1;
        bound = omega arith;
      })
      (subst (λ (x : List OwnItem). Nodes stop hi a x) (sym (behind_tree W r i a l stop hi d j)) (nodes g b (fit_back i a both) (each_back ElseFirst i a cols))) j))

  record Halves (lo hi : ℕ) (l : List Row) (x y : List OwnItem) : Type 0 where
    mid : ℕ
    front : List Row
    back : List Row
    first : Nodes lo mid front x
    last : Nodes mid hi back y
    is : l ≡ front ++ back

  split : (x y z : List OwnItem) {lo hi : ℕ} {l : List Row} → Nodes lo hi l z → z ≡ x ++ y → Halves lo hi l x y
  split [] y z {lo = lo} {hi = hi} {l = l} n d = record { mid = lo; front = []; back = l; first = end refl; last = subst (Nodes lo hi l) d n; is = refl }
  split (a ∷ x) y z (end u) d = let v : ◌≡◌ {A = ℕ} 0 1 = cc in clash v
  split (a ∷ x) y z (leaf {lo = lo} {x = z'} u n) d =
      let v : z' ≡ x ++ y = cc in
      let v₁ : at lo ≡ a = cc in
      let h = split x y z' n v in
      record { mid = h.mid; front = h.front; back = h.back; first = subst (λ (i : OwnItem). Nodes lo h.mid h.front (i ∷ x)) v₁ (leaf u h.first); last = h.last; is = h.is }
  split (a ∷ x) y z (tree {lo = lo} {r = r} {inside = i} {after = m} {rest = l} {x = z'} c n j) d =
      let v : z' ≡ x ++ y = cc in
      let v₁ : row (sort_of W r) ≡ a = cc in
      let h = split x y z' n v in
      record {
        mid = h.mid;
        front = r ∷ (i ++ h.front);
        back = h.back;
        first = subst (λ (k : OwnItem). Nodes lo h.mid (r ∷ (i ++ h.front)) (k ∷ x)) v₁ (tree c h.first refl);
        last = h.last;
        is = ap (λ (k : List Row). r ∷ k) (sym j ∙ ap (λ (k : List Row). i ++ k) h.is ∙ sym (append_assoc i h.front h.back));
      }

  nodes_none : (z : List OwnItem) {lo hi : ℕ} {l : List Row} → Nodes lo hi l z → z ≡ [] → (lo ≡ hi) × (l ≡ [])
  nodes_none z (end u) d = (u, refl)
  nodes_none z (leaf u n) d = let v : ◌≡◌ {A = ℕ} 0 1 = cc in clash v
  nodes_none z (tree c n j) d = let v : ◌≡◌ {A = ℕ} 0 1 = cc in clash v

  nodes_leaf : (z : List OwnItem) (i : ℕ) {lo hi : ℕ} {l : List Row} → Nodes lo hi l z → z ≡ at i ∷ [] → (i ≡ lo) × (hi ≡ suc lo) × (l ≡ []) × (lo < length W)
  nodes_leaf z i (end u) d = let v : ◌≡◌ {A = ℕ} 0 1 = cc in clash v
  nodes_leaf z i (leaf {lo = lo} {x = z'} u n) d =
      let v : z' ≡ [] = cc in
      let v₁ : lo ≡ i = cc in
      let h = nodes_none z' n v in
      (sym v₁, sym h.0, h.1, u)
  nodes_leaf z i (tree c n j) d = let v : ◌≡◌ {A = ℕ} 0 1 = cc in clash v

  record Lone (s lo hi : ℕ) (l : List Row) : Type 0 where
    on : Row
    inner : List Row
    child : Child lo hi on inner
    sort : sort_of W on ≡ s
    is : on ∷ inner ≡ l

  nodes_row : (z : List OwnItem) (s : ℕ) {lo hi : ℕ} {l : List Row} → Nodes lo hi l z → z ≡ row s ∷ [] → Lone s lo hi l
  nodes_row z s (end u) d = let v : ◌≡◌ {A = ℕ} 0 1 = cc in clash v
  nodes_row z s (leaf u n) d = let v : ◌≡◌ {A = ℕ} 0 1 = cc in clash v
  nodes_row z s (tree {lo = lo} {r = r} {inside = i} {after = a} {x = z'} c n j) d =
      let v : z' ≡ [] = cc in
      let v₁ : sort_of W r ≡ s = cc in
      let h = nodes_none z' n v in
      record { on = r; inner = i; child = subst (λ (k : ℕ). Child lo k r i) h.0 c; sort = v₁; is = ap (λ (k : List Row). r ∷ k) (sym (append-nil i) ∙ ap (λ (k : List Row). i ++ k) (sym h.1) ∙ j) }

  -- Of trees with fewer than N rows inside, Q is known; and B of what is in parentheses.
  module _ (Q : ℕ → ℕ → ℕ → List Row → Type 0) (B : ℕ → ℕ → List Row → Type 0) (N : ℕ)
      (kids : (lo hi : ℕ) (r : Row) (inside : List Row) → Child lo hi r inside → length inside < N → Q (sort_of W r) lo hi (r ∷ inside))
      (parens : (lo mid : ℕ) (l : List Row) → lo < length W → get_or W lo 0 ≡ number_of left_paren → Laid W Q B 0 an_expression (suc lo) mid l → mid < length W → get_or W mid 0 ≡ number_of right_paren → B lo (suc mid) l) where
    by_kid : (s lo hi : ℕ) (l : List Row) → length l ≤ N → Lone s lo hi l → Q s lo hi l
    by_kid s lo hi l n h =
        let len : suc (length h.inner) ≡ length l = ap length h.is in
        subst (λ (x : List Row). Q s lo hi x) h.is (subst (λ (i : ℕ). Q i lo hi (h.on ∷ h.inner)) h.sort (kids lo hi h.on h.inner h.child (omega arith)))

    -- an operand does not ask for the operator
    any_operator : (q q' : ℕ) (S : List ℕ) {lo hi : ℕ} {l : List Row} → Laid W Q B q (operand S) lo hi l → Laid W Q B q' (operand S) lo hi l
    any_operator q q' S (bare s i h) = bare s i h
    any_operator q q' S (inside h) = inside h

    shorter : (l m z : List Row) → z ≡ l ++ m → length z ≤ N → (length l ≤ N) × (length m ≤ N)
    shorter l m z d n = let h : length z ≡ length l + length m = ap length d ∙ length-append l m in (omega arith, omega arith)

    pub lay : (q : ℕ) (p : Pattern) (x : List OwnItem) {lo hi : ℕ} {l : List Row} → Fits W q p x → Nodes lo hi l x → length l ≤ N → Laid W Q B q p lo hi l
    lay q p x lines.Fits.none n len = let h = nodes_none x n refl in none h.0 h.1
    lay q p x {lo = lo} (lines.Fits.this {t = t} {K = K} {x = at i} c m) n len =
        let h = nodes_leaf x i n refl in
        element h.1 h.2 h.3 (subst (λ (k : ℕ). IsOf q t (at k)) h.0 c) (subst (λ (k : ℕ). T (is_in (get_or W k 0) K)) h.0 m)
    lay q p x {lo = lo} {hi = hi} {l = l} (lines.Fits.this {x = row s} c m) n len = child s c m (by_kid s lo hi l len (nodes_row x s n refl))
    lay q p x {lo = lo} {hi = hi} {l = l} (lines.Fits.bare {s = s} m) n len = bare s m (by_kid s lo hi l len (nodes_row x s n refl))
    lay q p x {lo = lo} {hi = hi} {l = l} (lines.Fits.inside {x = y} i j a f b d) n len =
        let u = split (at i ∷ []) (y ++ (at j ∷ [])) x n d in
        let v = split y (at j ∷ []) (y ++ (at j ∷ [])) u.last refl in
        let w₁ = nodes_leaf (at i ∷ []) i u.first refl in
        let w₂ = nodes_leaf (at j ∷ []) j v.last refl in
        let whole : l ≡ v.front = u.is ∙ ap (λ (k : List Row). k ++ u.back) w₁.2 ∙ v.is ∙ ap (λ (k : List Row). v.front ++ k) w₂.2 ∙ append-nil v.front in
        let inner = lay q (operand expressions) y f v.first (subst (λ (k : List Row). length k ≤ N) whole len) in
        inside (subst (λ (k : ℕ). B lo k l) (sym w₂.1) (subst (λ (k : List Row). B lo (suc v.mid) k) (sym whole)
        (parens lo v.mid v.front w₁.3 (subst (λ (k : ℕ). get_or W k 0 ≡ number_of left_paren) w₁.0 a)
        (subst (λ (k : ℕ). Laid W Q B 0 an_expression k v.mid v.front) w₁.1 (any_operator q 0 expressions inner)) w₂.3 (subst (λ (k : ℕ). get_or W k 0 ≡ number_of right_paren) w₂.0 b))))
    lay q p x (lines.Fits.then {a = a} {b = b} {x = y} {y = z} f g d) n len =
        let u = split y z x n d in
        let s = shorter u.front u.back _ u.is len in
        then u.mid u.front u.back (lay q a y f u.first s.0) (lay q b z g u.last s.1) u.is
    lay q p x (lines.Fits.left {a = a} f) n len = left (lay q a x f n len)
    lay q p x (lines.Fits.right {b = b} f) n len = right (lay q b x f n len)
    lay q p x lines.Fits.no_more n len = let h = nodes_none x n refl in no_more h.0 h.1
    lay q p x (lines.Fits.more {a = a} {x = y} {y = z} f g d) n len =
        let u = split y z x n d in
        let s = shorter u.front u.back _ u.is len in
        more u.mid u.front u.back (lay q a y f u.first s.0) (lay q (lines.Pattern.many a) z g u.last s.1) u.is
