-- Every row of a reading fits its form's line. The items of each open frame are those between its first element and the next frame's, over
-- its rows; each action does to them what the rules' test says. Assumes nothing.
use Prim.Native.Nat.{ℕ, zero, suc, ◌+◌, ◌-◌, ◌≤◌}
use mathlib.Core.Path.{◌≡◌, refl, sym, ◌∙◌, ap, ap₂, subst}
use mathlib.Core.Bool.{Bool, true, false, cond}
use mathlib.Core.List.{List, [], ◌∷◌, ◌++◌, append_assoc, append-nil}
use native.Mathlib.Omega.{arith}
use lib.Dec.{T, ltb}
use lib.ListN.{get_or, drop, take, length, length-append}
use Rattle.laws.proofs.Laws.{clash}
use Rattle.grammars.specs.code.Grammar.{Sym, nt, act}
use Rattle.grammars.specs.code.Actions.{go, Reads, done, eat, acts, grow}
use Rattle.grammars.proofs.Check.{imp}
use Rattle.forms.specs.code.Rules.{forms}
use Rattle.forms.specs.Tree.{Row, Forest, bare, tree}
use Rattle.forms.specs.code.RuleActions.{Frame, State, Refusal, fresh, top, on_top, joined, marked, named, frame_row, rowed, frame_is_named, does, start, state_rows, Reading}
use Rattle.forms.specs.code.RuleNames.{file, constant, subtype, name_number}
use Rattle.forms.specs.code.ItemReading.{ItemReading}
use Rattle.forms.specs.FormLines.{OwnItem, at, row, operates, is_branch, sort, rows, form_line, Fits, elements, sort_of, items_in, own_items, operator_at, RowsFit}
use Rattle.forms.specs.Files.{TreeFits}
use Rattle.forms.proofs.Growing.{Standing, kept, standing_eat, forest_le}
use Rattle.forms.proofs.Nesting.{frame_left}
use Rattle.forms.proofs.Summaries.{positive, last_at, first_at, Around, kind_at, telling_at, RowOk, Fit, fit_grow}
use Rattle.forms.proofs.Steps.{named_frames, deeper_frames}

-- stretches of elements
elements_append : (lo c d : ℕ) → elements lo c ++ elements (lo + c) d ≡ elements lo (c + d)
elements_append lo zero d = same (lo + 0) (0 + d) (omega arith) (omega arith)
  where
    same : (x y : ℕ) → x ≡ lo → d ≡ y → elements x d ≡ elements lo y
    same x y e f = rw (e, f)
elements_append lo (suc c) d =
    let z : lo + suc c ≡ suc lo + c = omega arith in
    let y : suc c + d ≡ suc (c + d) = omega arith in
    ap (λ (x : ℕ). at lo ∷ elements (suc lo) c ++ elements x d) z ∙ ap (λ (l : List OwnItem). at lo ∷ l) (elements_append (suc lo) c d) ∙ ap (elements lo) (sym y)

elements_join : (lo mid hi : ℕ) → lo ≤ mid → mid ≤ hi → elements lo (mid - lo) ++ elements mid (hi - mid) ≡ elements lo (hi - lo)
elements_join lo mid hi a b =
    let z : mid ≡ lo + (mid - lo) = omega arith in
    let y : mid - lo + (hi - mid) ≡ hi - lo = omega arith in
    ap (λ (x : ℕ). elements lo (mid - lo) ++ elements x (hi - mid)) z ∙ elements_append lo (mid - lo) (hi - mid) ∙ ap (elements lo) y

elements_one : (k : ℕ) → elements k (suc k - k) ≡ at k ∷ []
elements_one k = let z : suc k - k ≡ 1 = omega arith in ap (elements k) z

elements_none : (k : ℕ) → elements k (k - k) ≡ []
elements_none k = let z : k - k ≡ 0 = omega arith in ap (elements k) z

last_elements : (lo c : ℕ) → T (positive (last_at (elements lo c))) → last_at (elements lo c) ≡ lo + c
last_elements lo zero h = absurd h
last_elements lo (suc zero) h = omega arith
last_elements lo (suc (suc c)) h = last_elements (suc lo) (suc c) h ∙ omega arith

last_behind : (x : List OwnItem) (b : OwnItem) (y : List OwnItem) → last_at (x ++ (b ∷ y)) ≡ last_at (b ∷ y)
last_behind [] b y = refl
last_behind (a ∷ []) b y = refl
last_behind (a ∷ c ∷ x) b y = last_behind (c ∷ x) b y

last_row : (s : ℕ) (y : List OwnItem) → T (positive (last_at (row s ∷ y))) → last_at (row s ∷ y) ≡ last_at y
last_row s [] h = absurd h
last_row s (b ∷ y) h = refl

pub take_all : (l : List Row) → take (length l) l ≡ l
take_all [] = refl
take_all (r ∷ l) = ap (λ (m : List Row). r ∷ m) (take_all l)

pub take_less : (n : ℕ) (l m : List Row) → n ≤ length l → take n (l ++ m) ≡ take n l
take_less zero l m h = refl
take_less (suc n) [] m h = absurd (omega arith)
take_less (suc n) (r ∷ l) m h = ap (λ (x : List Row). r ∷ x) (take_less n l m (omega arith))

module _ (W : List ℕ) where
  -- rows of the tree before
  skipped : (l m : List Row) (lo hi : ℕ) → items_in W (length l) lo hi (l ++ m) ≡ items_in W 0 lo hi m
  skipped [] m lo hi = refl
  skipped (r ∷ l) m lo hi = skipped l m lo hi

  pub behind_tree : (r : Row) (inside after rest : List Row) (lo hi : ℕ) → r.rows ≡ length inside + 1 → inside ++ after ≡ rest → items_in W (r.rows - 1) lo hi rest ≡ items_in W 0 lo hi after
  behind_tree r inside after rest lo hi d j =
      let z : r.rows - 1 ≡ length inside = omega arith in
      ap₂ (λ (n : ℕ) (l : List Row). items_in W n lo hi l) z (sym j) ∙ skipped inside after lo hi

  items_eat : {lo k : ℕ} {l : List Row} → Forest lo k l → items_in W 0 lo (suc k) l ≡ items_in W 0 lo k l ++ (at k ∷ [])
  items_eat {lo = lo} {k = k} (bare h) =
      sym (elements_join lo k (suc k) h (omega arith)) ∙ ap (λ (x : List OwnItem). elements lo (k - lo) ++ x) (elements_one k)
  items_eat {lo = lo} {k = k} (tree {r = r} {inside = i} {after = a} {rest = l} b f d g j) =
      let end : ℕ = r.first + r.count in
      let E = elements lo (r.first - lo) in
      ap (λ (x : List OwnItem). E ++ (row (sort_of W r) ∷ x)) (behind_tree r i a l end (suc k) d j ∙ items_eat g ∙ ap (λ (x : List OwnItem). x ++ (at k ∷ [])) (sym (behind_tree r i a l end k d j)))
      ∙ sym (append_assoc E (row (sort_of W r) ∷ items_in W (r.rows - 1) end k l) (at k ∷ []))

  items_last : {lo k : ℕ} {l : List Row} → Forest lo k l → T (positive (last_at (items_in W 0 lo k l))) → last_at (items_in W 0 lo k l) ≡ k
  items_last {lo = lo} {k = k} (bare h) t = let z : lo + (k - lo) ≡ k = omega arith in last_elements lo (k - lo) t ∙ z
  items_last {lo = lo} {k = k} (tree {r = r} {inside = i} {after = a} {rest = l} b f d g j) t =
      let end : ℕ = r.first + r.count in
      let E = elements lo (r.first - lo) in
      let X = items_in W (r.rows - 1) end k l in
      let e₁ : last_at (E ++ (row (sort_of W r) ∷ X)) ≡ last_at (row (sort_of W r) ∷ X) = last_behind E (row (sort_of W r)) X in
      let e₂ = last_row (sort_of W r) X (subst (λ (n : ℕ). T (positive n)) e₁ t) in
      let e₃ : last_at X ≡ last_at (items_in W 0 end k a) = ap last_at (behind_tree r i a l end k d j) in
      let e₄ = e₁ ∙ e₂ ∙ e₃ in
      e₄ ∙ items_last g (subst (λ (n : ℕ). T (positive n)) e₄ t)

  items_first : {lo k : ℕ} {l : List Row} → Forest lo k l → T (positive (first_at (items_in W 0 lo k l))) → first_at (items_in W 0 lo k l) ≡ suc lo
  items_first {lo = lo} {k = k} (bare h) t = by (k - lo) t
    where
      by : (c : ℕ) → T (positive (first_at (elements lo c))) → first_at (elements lo c) ≡ suc lo
      by zero t = absurd t
      by (suc c) t = refl
  items_first {lo = lo} {k = k} (tree {r = r} {rest = l} b f d g j) t = by (r.first - lo) t
    where
      X : List OwnItem
      X = items_in W (r.rows - 1) (r.first + r.count) k l

      by : (c : ℕ) → T (positive (first_at (elements lo c ++ (row (sort_of W r) ∷ X)))) → first_at (elements lo c ++ (row (sort_of W r) ∷ X)) ≡ suc lo
      by zero t = absurd t
      by (suc c) t = refl

  items_join : {lo mid hi : ℕ} {l m : List Row} → Forest lo mid l → Forest mid hi m → items_in W 0 lo hi (l ++ m) ≡ items_in W 0 lo mid l ++ items_in W 0 mid hi m
  items_join {lo = lo} {mid = mid} {hi = hi} (bare h) (bare h') = sym (elements_join lo mid hi h h')
  items_join {lo = lo} {mid = mid} {hi = hi} (bare h) (tree {r = r} {rest = l} b f d g j) =
      let X = row (sort_of W r) ∷ items_in W (r.rows - 1) (r.first + r.count) hi l in
      ap (λ (x : List OwnItem). x ++ X) (sym (elements_join lo mid r.first h b)) ∙ append_assoc (elements lo (mid - lo)) (elements mid (r.first - mid)) X
  items_join {lo = lo} {mid = mid} {hi = hi} {m = m} (tree {r = r} {inside = i} {after = a} {rest = l} b f d g j) k =
      let end : ℕ = r.first + r.count in
      let E = elements lo (r.first - lo) in
      let M = items_in W 0 mid hi m in
      ap (λ (x : List OwnItem). E ++ (row (sort_of W r) ∷ x))
      (behind_tree r i (a ++ m) (l ++ m) end hi d (sym (append_assoc i a m) ∙ ap (λ (x : List Row). x ++ m) j) ∙ items_join g k ∙ ap (λ (x : List OwnItem). x ++ M) (sym (behind_tree r i a l end mid d j)))
      ∙ sym (append_assoc E (row (sort_of W r) ∷ items_in W (r.rows - 1) end mid l) M)

  items_row : (n k : ℕ) (f : Frame) → f.first ≤ k → items_in W 0 f.first k (frame_row n k f ∷ f.rows) ≡ row (sort_of W (frame_row n k f)) ∷ []
  items_row n k f h =
      let z : length f.rows + 1 - 1 ≡ length f.rows = omega arith in
      let y : f.first + (k - f.first) ≡ k = omega arith in
      let s = sort_of W (frame_row n k f) in
      ap₂ (λ (x y : List OwnItem). x ++ (row s ∷ y)) (elements_none f.first)
      (ap₂ (λ (a b : ℕ). items_in W a b k f.rows) z y ∙ ap (items_in W (length f.rows) k k) (sym (append-nil f.rows)) ∙ skipped f.rows [] k k ∙ elements_none k)

  own_row : (n k : ℕ) (f : Frame) → f.first ≤ k → own_items W (frame_row n k f) f.rows ≡ items_in W 0 f.first k f.rows
  own_row n k f h =
      let z : length f.rows + 1 - 1 ≡ length f.rows = omega arith in
      let y : f.first + (k - f.first) ≡ k = omega arith in
      ap₂ (λ (a : ℕ) (l : List Row). items_in W 0 f.first a l) y (ap (λ (a : ℕ). take a f.rows) z ∙ take_all f.rows)

  rows_append : (l m : List Row) → RowsFit W l → RowsFit W m → RowsFit W (l ++ m)
  rows_append [] m a b = b
  rows_append (r ∷ l) m a b =
      let n = a.0 in (
        omega (arith, length-append l m),
        subst (λ (x : List Row). Fits W (operator_at r) (form_line r.form) (items_in W 0 r.first (r.first + r.count) x)) (sym (take_less (r.rows - 1) l m (omega arith))) a.1,
        rows_append l m a.2 b,
      )

  -- the frames as the test's items
  abbrev Mark : ℕ → Frame → Type 0
  Mark zero f = Unit {0}
  Mark (suc i) f = f.operator ≡ i

  abbrev Linked : ℕ → List Frame → Around → Type 0
  Linked hi [] [] = Unit {0}
  Linked hi [] (g ∷ G) = ⊥
  Linked hi (f ∷ fs) [] = ⊥
  Linked hi (f ∷ fs) (g ∷ G) = (items_in W 0 f.first hi f.rows ≡ g.0) × (Mark g.1 f) × RowsFit W f.rows × Linked f.first fs G

  record Held (End : List OwnItem → Type 0) (k : ℕ) (s : State) (α : List Sym) : Type 0 where
    items : List OwnItem
    operator : ℕ
    around : Around
    fit : Fit W End items operator around α
    linked : Linked k s.frames ((items, operator) ∷ around)
    standing : Standing k s.frames

  linked_eat : (k : ℕ) (fs : List Frame) (x : List OwnItem) (q : ℕ) (F : Around) → Standing k fs → Linked k fs ((x, q) ∷ F) → Linked (suc k) fs ((x ++ (at k ∷ []), q) ∷ F)
  linked_eat k [] x q F s h = absurd h
  linked_eat k (f ∷ fs) x q F s h = (items_eat s.0 ∙ ap (λ (y : List OwnItem). y ++ (at k ∷ [])) h.0, h.1, h.2, h.3)

  some_frame : (k : ℕ) (fs : List Frame) (g : List OwnItem × ℕ) (F : Around) → Linked k fs (g ∷ F) → 1 ≤ length fs
  some_frame k [] g F h = absurd h
  some_frame k (f ∷ fs) g F h = omega arith

  linked_joined : (k : ℕ) (fs : List Frame) (x : List OwnItem) (q : ℕ) (g : List OwnItem × ℕ) (F : Around) → Standing k fs → Linked k fs ((x, q) ∷ g ∷ F) → Linked k (joined fs) ((g.0 ++ x, g.1) ∷ F)
  linked_joined k [] x q g F s h = absurd h
  linked_joined k (f ∷ []) x q g F s h = absurd h.3
  linked_joined k (f ∷ d ∷ fs) x q g F s h = (
    items_join s.1.0 s.0 ∙ ap₂ (λ (y z : List OwnItem). y ++ z) h.3.0 h.0,
    mark_as g.1 h.3.1,
    rows_append d.rows f.rows h.3.2 h.2,
    h.3.3,
  )
    where
      mark_as : (q : ℕ) → Mark q d → Mark q (record { first = d.first; operator = d.operator; name = d.name; rows = d.rows ++ f.rows })
      mark_as zero m = tt
      mark_as (suc i) m = m

  linked_marked : (k : ℕ) (fs : List Frame) (x : List OwnItem) (q : ℕ) (F : Around) → T (positive (last_at x)) → Standing k fs → Linked k fs ((x, q) ∷ F) → Linked k (on_top (marked (k - 1)) fs) ((x, last_at x) ∷ F)
  linked_marked k [] x q F t s h = absurd h
  linked_marked k (f ∷ fs) x q F t s h =
      let e : last_at x ≡ k = sym (ap last_at h.0) ∙ items_last s.0 (subst (λ (y : List OwnItem). T (positive (last_at y))) (sym h.0) t) in
      (h.0, by (last_at x) e t, h.2, h.3)
    where
      by : (n : ℕ) → n ≡ k → T (positive n) → Mark n (marked (k - 1) f)
      by zero e t = absurd t
      by (suc n) e t = omega arith

  linked_named : (k : ℕ) (fs : List Frame) (x : List OwnItem) (q : ℕ) (F : Around) → Linked k fs ((x, q) ∷ F) → Linked k (on_top (named k) fs) ((x, q) ∷ F)
  linked_named k [] x q F h = absurd h
  linked_named k (f ∷ fs) x q F h = (h.0, by q h.1, h.2, h.3)
    where
      by : (n : ℕ) → Mark n f → Mark n (named k f)
      by zero m = tt
      by (suc n) m = m

  operator_same : (n q : ℕ) (f : Frame) → T (imp (operates n) (positive q)) → Mark q f → cond (operates n) (suc f.operator) 0 ≡ cond (operates n) q 0
  operator_same n q f t m = by (operates n) q t m
    where
      by : (o : Bool) (q : ℕ) → T (imp o (positive q)) → Mark q f → cond o (suc f.operator) 0 ≡ cond o q 0
      by true zero t m = absurd t
      by true (suc i) t m = ap suc m
      by false q t m = refl

  sort_same : (n q : ℕ) (f : Frame) (x : List OwnItem) → T (imp (operates n) (positive q)) → T (cond (operates n) true (imp (is_branch n) (positive (first_at x)))) → Mark q f
      → (T (positive (first_at x)) → first_at x ≡ suc f.first)
      → sort n (cond (operates n) (get_or W f.operator 0) (cond (is_branch n) (get_or W f.first 0) 0)) ≡ sort n (telling_at W (operates n) (is_branch n) q x)
  sort_same n q f x t u m e = by (operates n) (is_branch n) q t u m
    where
      by : (o c : Bool) (q : ℕ) → T (imp o (positive q)) → T (cond o true (imp c (positive (first_at x)))) → Mark q f
          → sort n (cond o (get_or W f.operator 0) (cond c (get_or W f.first 0) 0)) ≡ sort n (telling_at W o c q x)
      by true c zero t u m = absurd t
      by true c (suc i) t u m = ap (λ (j : ℕ). sort n (get_or W j 0)) m
      by false true q t u m = sym (ap (λ (j : ℕ). sort n (kind_at W j)) (e u))
      by false false q t u m = refl

  linked_rowed : (n k : ℕ) (fs : List Frame) (x : List OwnItem) (q : ℕ) (F : Around) → RowOk W n q x → Standing k fs → Linked k fs ((x, q) ∷ F)
      → Linked k (on_top (rowed n k) fs) ((row (sort n (telling_at W (operates n) (is_branch n) q x)) ∷ [], q) ∷ F)
  linked_rowed n k [] x q F r s h = absurd h
  linked_rowed n k (f ∷ fs) x q F r s h =
      let l = forest_le s.0 in (
        items_row n k f l ∙ ap (λ (c : ℕ). row c ∷ []) (sort_same n q f x r.0 r.1.0 h.1 (λ v. sym (ap first_at h.0) ∙ items_first s.0 (subst (λ (y : List OwnItem). T (positive (first_at y))) (sym h.0) v))),
        by q h.1,
        (
          omega arith,
          subst (λ (i : ℕ). Fits W i (form_line n) (own_items W (frame_row n k f) f.rows)) (sym (operator_same n q f r.0 h.1)) (subst (Fits W (cond (operates n) q 0) (form_line n)) (sym (own_row n k f l ∙ h.0)) r.1.1),
          h.2,
        ),
        h.3,
      )
    where
      by : (q : ℕ) → Mark q f → Mark q (rowed n k f)
      by zero m = tt
      by (suc i) m = m

  module _ (End : List OwnItem → Type 0) (alike : ℕ → ℕ → Bool) (k : ℕ) (s t : State) (α : List Sym) where
    of : (u : State) → u ≡ t → u.frames ≡ t.frames
    of u e = ap (λ (x : State). x.frames) e

    to : (fs : List Frame) → fs ≡ t.frames → (x : List OwnItem) (q : ℕ) (F : Around) → Fit W End x q F α → Linked k fs ((x, q) ∷ F) → Standing k t.frames → Held End k t α
    to fs e x q F f l st = record { items = x; operator = q; around = F; fit = f; linked = subst (λ (v : List Frame). Linked k v ((x, q) ∷ F)) e l; standing = st }

    close : (x : List OwnItem) (q : ℕ) (F : Around) → joined s.frames ≡ t.frames → Fit W End x q F (act 1 ∷ α) → Standing k s.frames → Linked k s.frames ((x, q) ∷ F) → Standing k t.frames → Held End k t α
    close x q [] e f st l st' = absurd f
    close x q (g ∷ F) e f st l st' = to (joined s.frames) e (g.0 ++ x) g.1 F f (linked_joined k s.frames x q g F st l) st'

    held_act : (a : ℕ) → does alike a k s ≡ go t → Standing k t.frames → Held End k s (act a ∷ α) → Held End k t α
    unfolding does
    held_act zero e st h =
        to (fresh k ∷ s.frames) (of (record { frames = fresh k ∷ s.frames; depth = s.depth }) (cc)) [] 0 ((h.items, h.operator) ∷ h.around) h.fit (elements_none k, tt, tt, h.linked) st
    held_act (suc zero) e st h = close h.items h.operator h.around (of (record { frames = joined s.frames; depth = s.depth }) (cc)) h.fit h.standing h.linked st
    held_act (suc (suc zero)) e st h =
        to (on_top (marked (k - 1)) s.frames) (of (record { frames = on_top (marked (k - 1)) s.frames; depth = s.depth }) (cc)) h.items (last_at h.items) h.around h.fit.1
        (linked_marked k s.frames h.items h.operator h.around h.fit.0 h.standing h.linked) st
    held_act (suc (suc (suc zero))) e st h =
        to (on_top (named k) s.frames) (of (record { frames = on_top (named k) s.frames; depth = s.depth }) (cc)) h.items h.operator h.around h.fit
        (linked_named k s.frames h.items h.operator h.around h.linked) st
    held_act (suc (suc (suc (suc zero)))) e st h =
        to s.frames (named_frames s t (frame_is_named alike (top s.frames).name (k - 1)) e) h.items h.operator h.around h.fit h.linked st
    held_act (suc (suc (suc (suc (suc zero))))) e st h = to s.frames (deeper_frames s t (ltb s.depth 32) e) h.items h.operator h.around h.fit h.linked st
    held_act (suc (suc (suc (suc (suc (suc zero)))))) e st h =
        to s.frames (of (record { frames = s.frames; depth = s.depth - 1 }) (cc)) h.items h.operator h.around h.fit h.linked st
    held_act (suc (suc (suc (suc (suc (suc (suc n))))))) e st h =
        to (on_top (rowed n k) s.frames) (of (record { frames = on_top (rowed n k) s.frames; depth = s.depth }) (cc)) (row (sort n (telling_at W (operates n) (is_branch n) h.operator h.items)) ∷ []) h.operator h.around h.fit.1
        (linked_rowed n k s.frames h.items h.operator h.around h.fit.0 h.standing h.linked) st

  -- what is left of the elements when k were read
  next : (l : List ℕ) (k a : ℕ) (w : List ℕ) → drop k l ≡ a ∷ w → (get_or l k 0 ≡ a) × (drop (suc k) l ≡ w)
  next [] zero a w e = let z : ◌≡◌ {A = ℕ} 0 1 = cc in clash z
  next [] (suc k) a w e = let z : ◌≡◌ {A = ℕ} 0 1 = cc in clash z
  next (x ∷ l) zero a w e = (cc, cc)
  next (x ∷ l) (suc k) a w e = next l k a w e

  held : (End : List OwnItem → Type 0) (alike : ℕ → ℕ → Bool) {α : List Sym} {k : ℕ} {s t : State} {w : List ℕ} → Reads State Refusal forms (does alike) α k s w t → drop k W ≡ w → Held End k s α
      → Held End (k + length w) t []
  held End alike {k = k} {t = t} done e h = let z : k ≡ k + 0 = omega arith in subst (λ (n : ℕ). Held End n t []) z h
  held End alike (eat {a = a} {k = k} {α = α} {w = w} {s = s} {s' = t} r) e h =
      let n = next W k a w e in
      let z : suc k + length w ≡ k + suc (length w) = omega arith in
      subst (λ (n : ℕ). Held End n t []) z
      (held End alike r n.1
      (record {
        items = h.items ++ (at k ∷ []);
        operator = h.operator;
        around = h.around;
        fit = h.fit k n.0;
        linked = linked_eat k s.frames h.items h.operator h.around h.standing h.linked;
        standing = standing_eat k s.frames h.standing (some_frame k s.frames (h.items, h.operator) h.around h.linked);
      }))
  held End alike (acts {a = a} {k = k} {α = α} {s = s} {t = t} q r) e h = held End alike r e (held_act End alike k s t α a q (kept alike k s t a q h.standing) h)
  held End alike (grow {n = n} {k = k} {α = α} {s = s} p l q r) e h =
      held End alike r e (record { items = h.items; operator = h.operator; around = h.around; fit = fit_grow W End p l n q h.items h.operator h.around α h.fit; linked = h.linked; standing = h.standing })

  fitted : (End : List OwnItem → Type 0) (n : ℕ) → Fit W End [] 0 [] (nt n ∷ []) → (alike : ℕ → ℕ → Bool) (s : State) → Reads State Refusal forms (does alike) (nt n ∷ []) 0 start W s
      → End (items_in W 0 0 (length W) (state_rows s)) × RowsFit W (state_rows s)
  fitted End n f alike s r =
      let z : 0 + length W ≡ length W = omega arith in
      let h = held End alike r refl (record { items = []; operator = 0; around = []; fit = f; linked = (refl, tt, tt, tt); standing = (bare {lo = 0} {hi = 0} (omega arith), refl) }) in
      only (length W) s.frames h.items h.operator h.around (frame_left n alike W s r) (subst (λ (m : ℕ). Standing m s.frames) z h.standing) (subst (λ (m : ℕ). Linked m s.frames ((h.items, h.operator) ∷ h.around)) z h.linked) h.fit
    where
      only : (k : ℕ) (fs : List Frame) (x : List OwnItem) (q : ℕ) (F : Around) → length fs ≡ 1 → Standing k fs → Linked k fs ((x, q) ∷ F) → End x → End (items_in W 0 0 k (top fs).rows) × RowsFit W (top fs).rows
      only k [] x q F d st l h = absurd l
      only k (g ∷ []) x q F d st l h = (subst End (sym (sym (ap (λ (i : ℕ). items_in W 0 i k g.rows) st.1) ∙ l.0)) h, l.2)
      only k (g ∷ g' ∷ fs) x q F d st l h = absurd (omega arith)

-- the rows of a file fit
pub rows_fit : (alike : ℕ → ℕ → Bool) (w : List ℕ) (s : State) → Reading alike w s → TreeFits w (state_rows s)
rows_fit alike w s r = fitted w (λ x. Fits w 0 (form_line 0) x) (name_number file) (λ z f. f) alike s r

-- and those of a constant, or of a subtype, read alone
pub constant_rows_fit : (alike : ℕ → ℕ → Bool) (w : List ℕ) (s : State) → ItemReading constant alike w s → Fits w 0 (rows (4 ∷ [])) (items_in w 0 0 (length w) (state_rows s)) × RowsFit w (state_rows s)
constant_rows_fit alike w s r = fitted w (λ x. Fits w 0 (rows (4 ∷ [])) x) (name_number constant) (λ z f. f) alike s r

pub subtype_rows_fit : (alike : ℕ → ℕ → Bool) (w : List ℕ) (s : State) → ItemReading subtype alike w s → Fits w 0 (rows (5 ∷ [])) (items_in w 0 0 (length w) (state_rows s)) × RowsFit w (state_rows s)
subtype_rows_fit alike w s r = fitted w (λ x. Fits w 0 (rows (5 ∷ [])) x) (name_number subtype) (λ z f. f) alike s r
