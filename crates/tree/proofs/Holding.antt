-- What the arrays hold, kept by each action: a row put at the innermost frame's base heads that frame's rows and moves no other.
-- Assumes nothing.
use Prim.Native.Nat.{ℕ, suc, ◌+◌, ◌-◌, ◌*◌, ◌≤◌, ◌<◌}
use mathlib.Core.Path.{◌≡◌, refl, sym, ◌∙◌, ap, ap₂, subst}
use mathlib.Core.List.{List, [], ◌∷◌, ◌++◌, append_assoc}
use mathlib.Core.Bool.{Bool, true, false}
use native.Mathlib.Omega.{arith}
use lib.Dec.{eqb}
use borrow.Author.Tests.{eqb-true, eqb-false}
use native.Mathlib.Numerals.{add-one}
use lib.ListN.{length, get_or, drop, set, length-set, length-append}
use lib.Seq.{get_or-set_same, get_or-set_other}
use Rattle.forms.specs.Tree.{Row}
use Rattle.forms.specs.code.RuleActions.{Frame, fresh, top, on_top, joined, marked, named, rowed}
use Rattle.forms.specs.RowWords.{row_at}
use Rattle.tree.specs.code.Held.{Linked, none, more, Spans, empty, join, Frames, outermost, inside}

-- the lists of the bases are what they are
linked_one : {cells next : List ℕ} {h : ℕ} {l m : List Row} → Linked cells next h l → Linked cells next h m → l ≡ m
linked_one none none = refl
linked_one {cells = cells} {next = next} (more {r = r} {h = h} {l = l} e b k) (more {h = h'} {l = l'} e' b' k') =
    let z : h' ≡ h = sym e' ∙ e in
    ap (λ (x : List Row). row_at cells r ∷ x) (linked_one k (subst (λ (x : ℕ). Linked cells next x l') z k'))

module _ {cells next heads : List ℕ} where
  pub spans_le : {hi lo : ℕ} {l : List Row} → Spans cells next heads hi lo l → lo ≤ hi
  spans_le (empty e) = omega arith
  spans_le (join e h r a) = omega (arith, spans_le r)

  -- two stretches in a row
  pub spans_append : {hi mid lo : ℕ} {l m : List Row} → Spans cells next heads mid lo l → Spans cells next heads hi mid m → Spans cells next heads hi lo (l ++ m)
  spans_append {hi = hi} {m = m} (empty e) s = subst (λ (x : ℕ). Spans cells next heads hi x m) (sym e) s
  spans_append {m = m} (join {l = x} {m = y} e h r a) s = join e h (spans_append r s) (sym (append_assoc x y m) ∙ ap (λ (z : List Row). z ++ m) a)

  pub spans_one : {hi lo : ℕ} {l m : List Row} → Spans cells next heads hi lo l → Spans cells next heads hi lo m → l ≡ m
  spans_one (empty e) (empty f) = refl
  spans_one (empty e) (join f h r a) = absurd (omega (arith, spans_le r))
  spans_one (join f h r a) (empty e) = absurd (omega (arith, spans_le r))
  spans_one (join {h = h} {l = l} {m = m} e k r a) (join {h = h'} {l = l'} {m = m'} e' k' r' a') =
      let z : h' ≡ h = sym e' ∙ e in
      sym a ∙ ap₂ (λ (x y : List Row). x ++ y) (linked_one k (subst (λ (x : ℕ). Linked cells next x l') z k')) (spans_one r r') ∙ a'

  pub frames_size : {t : ℕ} {ws : List ℕ} {fs : List Frame} → Frames cells next heads t ws fs → length ws ≡ 4 * length fs
  frames_size outermost = refl
  frames_size (inside s e f) = omega (arith, frames_size f)

  pub base_low : {t : ℕ} {ws : List ℕ} {fs : List Frame} → Frames cells next heads t ws fs → get_or ws 2 0 ≤ t
  base_low outermost = omega arith
  base_low (inside s e f) = omega arith

  pub framed_none : Frames cells next heads 0 [] []
  framed_none = outermost

  pub framed_opens : {t : ℕ} {ws : List ℕ} {fs : List Frame} (k : ℕ) → Frames cells next heads t ws fs → Frames cells next heads t (k ∷ k ∷ t ∷ 0 ∷ ws) (fresh k ∷ fs)
  framed_opens {t = t} k f = inside {base = t} (empty refl) (omega arith) f

  pub framed_closes : {t : ℕ} {ws : List ℕ} {fs : List Frame} → 8 ≤ length ws → Frames cells next heads t ws fs → Frames cells next heads t (drop 4 ws) (joined fs)
  framed_closes l outermost = absurd (omega arith)
  framed_closes l (inside s e outermost) = absurd (omega arith)
  framed_closes l (inside {rows = m} s e (inside {rows = n} s' e' f)) = inside (spans_append s' s) (omega (arith, length-append n m)) f

  pub framed_last : {t : ℕ} {ws : List ℕ} {fs : List Frame} → length ws < 8 → Frames cells next heads t ws fs → Frames cells next heads t ws (joined fs)
  framed_last l outermost = outermost
  framed_last l (inside s e outermost) = inside s e outermost
  framed_last l (inside s e (inside s' e' f)) = absurd (omega arith)

  pub framed_marks : {t : ℕ} {ws : List ℕ} {fs : List Frame} (k : ℕ) → Frames cells next heads t ws fs → Frames cells next heads t (set ws 1 k) (on_top (marked k) fs)
  framed_marks k outermost = outermost
  framed_marks k (inside s e f) = inside s e f

  pub framed_names : {t : ℕ} {ws : List ℕ} {fs : List Frame} (k : ℕ) → Frames cells next heads t ws fs → Frames cells next heads t (set ws 3 k) (on_top (named k) fs)
  framed_names k outermost = outermost
  framed_names k (inside s e f) = inside s e f

  pub top_name : {t : ℕ} {ws : List ℕ} {fs : List Frame} → Frames cells next heads t ws fs → get_or ws 3 0 ≡ (top fs).name
  top_name outermost = refl
  top_name (inside s e f) = refl

  -- one frame left: all rows are its rows
  pub framed_end : {t : ℕ} {ws : List ℕ} {fs : List Frame} → Frames cells next heads t ws fs → length fs ≡ 1 → Spans cells next heads t 0 (top fs).rows × (length (top fs).rows ≡ t)
  framed_end outermost e = absurd (omega arith)
  framed_end (inside s e outermost) l = (s, omega arith)
  framed_end (inside s e (inside s' e' f)) l = absurd (omega arith)

-- a row is put at base b: the cells below stay, and b's list has it in front
module _ (c c' n h : List ℕ) (used b : ℕ) (keeps : (i : ℕ) → i < 5 * used → get_or c' i 0 ≡ get_or c i 0) (in-next : used < length n) (in-heads : used + 1 < length h) (low : b ≤ used)
    (within : (i : ℕ) → i ≤ used → get_or h i 0 ≤ used) (bare : get_or h used 0 ≡ 0) where
  n' : List ℕ
  n' = set n used (get_or h b 0)

  h' : List ℕ
  h' = set (set h b (used + 1)) (used + 1) 0

  -- the head of another base, and of this one
  head_other : (i : ℕ) → i ≤ used → (i ≡ b → ⊥) → get_or h' i 0 ≡ get_or h i 0
  unfolding h'
  head_other i l d = get_or-set_other (set h b (used + 1)) (used + 1) i 0 0 (λ z. absurd (omega arith)) ∙ get_or-set_other h b i (used + 1) 0 d

  head_here : get_or h' b 0 ≡ suc used
  unfolding h'
  head_here = get_or-set_other (set h b (used + 1)) (used + 1) b 0 0 (λ z. absurd (omega arith)) ∙ get_or-set_same h b (used + 1) 0 (omega arith) ∙ add-one used

  head_next : get_or h' (used + 1) 0 ≡ 0
  unfolding h'
  head_next = get_or-set_same (set h b (used + 1)) (used + 1) 0 0 (simp length-set in-heads)

  row_keeps : (r : ℕ) → r < used → row_at c' r ≡ row_at c r
  row_keeps r l = λ i. record {
    form = keeps (5 * r) (omega arith) i;
    first = keeps (5 * r + 1) (omega arith) i;
    count = keeps (5 * r + 2) (omega arith) i;
    rows = keeps (5 * r + 3) (omega arith) i;
    operator = keeps (5 * r + 4) (omega arith) i;
  }

  linked_keeps : {a : ℕ} {l : List Row} → Linked c n a l → a ≤ used → Linked c' n' a l
  unfolding n'
  linked_keeps none g = none
  linked_keeps (more {r = r} {l = l} e o k) g =
      subst (λ (x : Row). Linked c' n' (suc r) (x ∷ l)) (row_keeps r (omega arith))
      (more (get_or-set_other n used r (get_or h b 0) 0 (λ z. absurd (omega arith)) ∙ e) o (linked_keeps k (omega arith)))

  spans_keeps : {hi lo : ℕ} {l : List Row} → Spans c n h hi lo l → hi ≤ b → Spans c' n' h' hi lo l
  spans_keeps (empty e) g = empty e
  spans_keeps (join {lo = lo} e k r a) g =
      let w : lo ≤ used = omega (arith, spans_le r) in
      join (head_other lo w (λ z. absurd (omega (arith, spans_le r))) ∙ e) (linked_keeps k (subst (λ (x : ℕ). x ≤ used) e (within lo w))) (spans_keeps r g) a

  frames_keep : {t : ℕ} {ws : List ℕ} {fs : List Frame} → Frames c n h t ws fs → t ≤ b → Frames c' n' h' t ws fs
  frames_keep outermost g = outermost
  frames_keep (inside s e f) g = inside (spans_keeps s g) e (frames_keep f (omega arith))

  -- one base more, with no rows yet
  spans_more : {lo : ℕ} {l : List Row} → Spans c n h used lo l → b < lo → Spans c' n' h' (used + 1) lo l
  spans_more (empty {lo = lo} e) g =
      join (head_other lo (omega arith) (λ z. absurd (omega arith)) ∙ ap (λ (i : ℕ). get_or h i 0) e ∙ bare) none (empty {lo = suc lo} (omega arith)) refl
  spans_more (join {lo = lo} e k r a) g =
      let w : lo ≤ used = omega (arith, spans_le r) in
      join (head_other lo w (λ z. absurd (omega arith)) ∙ e) (linked_keeps k (subst (λ (x : ℕ). x ≤ used) e (within lo w))) (spans_more r (omega arith)) a

  spans_put : {l : List Row} → Spans c n h used b l → Spans c' n' h' (used + 1) b (row_at c' used ∷ l)
  unfolding n'
  spans_put (empty e) =
      join head_here
      (more (get_or-set_same n used (get_or h b 0) 0 in-next ∙ ap (λ (i : ℕ). get_or h i 0) e ∙ bare) (omega arith) none) (empty {lo = suc b} (omega arith)) refl
  spans_put (join {h = a} {l = x} {m = y} e k r q) =
      let z : a ≤ used = subst (λ (x : ℕ). x ≤ used) e (within b low) in
      join head_here
      (more (get_or-set_same n used (get_or h b 0) 0 in-next ∙ e) z (linked_keeps k z)) (spans_more r (omega arith)) (ap (λ (l : List Row). row_at c' used ∷ l) q)

  pub framed_row : {t : ℕ} {ws : List ℕ} {fs : List Frame} (f k : ℕ) → t ≡ used → b ≡ get_or ws 2 0 → Frames c n h t ws fs → 0 < length ws
      → row_at c' used ≡ record { form = f; first = get_or ws 0 0; count = k - get_or ws 0 0; rows = used - get_or ws 2 0 + 1; operator = get_or ws 1 0 }
      → Frames c' (set n used (get_or h b 0)) (set (set h b (used + 1)) (used + 1) 0) (used + 1) ws (on_top (rowed f k) fs)
  unfolding n' h'
  framed_row f k d e outermost g q = absurd (omega arith)
  framed_row f k d e (inside {first = i} {operator = o} {base = base} {top = t} {rows = l} s z fr) g q =
      let w : used - base + 1 ≡ length l + 1 = omega arith in
      let r : row_at c' used ≡ record { form = f; first = i; count = k - i; rows = length l + 1; operator = o } =
      q ∙ ap (λ (x : ℕ). record { form = f; first = i; count = k - i; rows = x; operator = o }) w in
      let s' : Spans c n h used b l = subst (λ (x : ℕ). Spans c n h x b l) d (subst (λ (x : ℕ). Spans c n h t x l) (sym e) s) in
      let m : List Row = record { form = f; first = i; count = k - i; rows = length l + 1; operator = o } ∷ l in
      let p : Spans c' (set n used (get_or h b 0)) (set (set h b (used + 1)) (used + 1) 0) (used + 1) b m =
      subst (λ (x : Row). Spans c' (set n used (get_or h b 0)) (set (set h b (used + 1)) (used + 1) 0) (used + 1) b (x ∷ l)) r (spans_put s') in
      inside (subst (λ (x : ℕ). Spans c' (set n used (get_or h b 0)) (set (set h b (used + 1)) (used + 1) 0) (used + 1) x m) e p) (omega arith) (frames_keep fr (omega arith))

  pub within_put : (i : ℕ) → i ≤ used + 1 → get_or (set (set h b (used + 1)) (used + 1) 0) i 0 ≤ used + 1
  unfolding h'
  within_put i l = go (eqb i b) refl (eqb i (used + 1)) refl
    where
      go : (t : Bool) → eqb i b ≡ t → (u : Bool) → eqb i (used + 1) ≡ u → get_or (set (set h b (used + 1)) (used + 1) 0) i 0 ≤ used + 1
      go t e true f =
          let z : get_or (set (set h b (used + 1)) (used + 1) 0) i 0 ≡ 0 = ap (λ (j : ℕ). get_or (set (set h b (used + 1)) (used + 1) 0) j 0) (eqb-true i (used + 1) f) ∙ head_next in
          omega arith
      go true e false f =
          let z : get_or (set (set h b (used + 1)) (used + 1) 0) i 0 ≡ suc used = ap (λ (j : ℕ). get_or (set (set h b (used + 1)) (used + 1) 0) j 0) (eqb-true i b e) ∙ head_here in
          omega arith
      go false e false f =
          let d = eqb-false i (used + 1) f in
          let w : i ≤ used = less i used d l in
          omega (arith, head_other i w (eqb-false i b e), within i w)
        where
          less : (x u : ℕ) → (x ≡ u + 1 → ⊥) → x ≤ u + 1 → x ≤ u
          less x u d l = omega arith

  pub bare_put : get_or (set (set h b (used + 1)) (used + 1) 0) (used + 1) 0 ≡ 0
  unfolding h'
  bare_put = head_next
