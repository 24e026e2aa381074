-- A reading's rows are a forest within its elements: every action keeps the rows of each open frame one. Assumes nothing.
use Prim.Native.Nat.{ℕ, zero, suc, ◌+◌, ◌-◌, ◌≤◌}
use mathlib.Core.Path.{◌≡◌, refl, sym, ◌∙◌, ap, subst}
use mathlib.Core.Bool.{Bool}
use mathlib.Core.List.{List, [], ◌∷◌, ◌++◌, append_assoc, append-nil}
use native.Mathlib.Omega.{arith}
use lib.Dec.{ltb}
use lib.ListN.{length}
use Rattle.grammars.specs.code.Grammar.{Sym, nt}
use Rattle.grammars.specs.code.Actions.{go, Reads, done, eat, acts, grow}
use Rattle.forms.specs.code.Rules.{forms}
use Rattle.forms.specs.Tree.{Row, Forest, bare, tree}
use Rattle.forms.specs.code.RuleActions.{Frame, State, Refusal, fresh, top, on_top, joined, marked, named, frame_row, rowed, does, start, frame_is_named, state_rows, Reading}
use Rattle.forms.proofs.Nesting.{Nested, nested_eat, nested_act, nested_grow, nested_from, frame_left}
use Rattle.forms.proofs.Steps.{same_name_lem, deeper_frames}

pub forest_le : {lo hi : ℕ} {l : List Row} → Forest lo hi l → lo ≤ hi
forest_le (bare h) = h
forest_le (tree a f e g j) = omega (arith, forest_le f, forest_le g)

-- more room above, and below
pub forest_more : {lo hi : ℕ} {l : List Row} (hi' : ℕ) → Forest lo hi l → hi ≤ hi' → Forest lo hi' l
forest_more {lo = lo} hi' (bare h) l = bare {lo = lo} {hi = hi'} (omega arith)
forest_more hi' (tree a f e g j) l = tree a f e (forest_more hi' g l) j

forest_below : {lo hi : ℕ} {l : List Row} (lo' : ℕ) → Forest lo hi l → lo' ≤ lo → Forest lo' hi l
forest_below {hi = hi} lo' (bare h) l = bare {lo = lo'} {hi = hi} (omega arith)
forest_below lo' (tree {r = r} a f e g j) l = tree {lo = lo'} {r = r} (omega arith) f e g j

-- two forests in a row
pub forest_append : {lo mid hi : ℕ} {l m : List Row} → Forest lo mid l → Forest mid hi m → Forest lo hi (l ++ m)
forest_append {lo = lo} (bare h) g = forest_below lo g h
forest_append {m = m} (tree {inside = x} {after = y} a f e g j) h =
    tree a f e (forest_append g h) (sym (append_assoc x y m) ∙ ap (λ (z : List Row). z ++ m) j)

-- the frames' rows when k elements were read: each frame's end where the one inside it begins
abbrev pub Standing : ℕ → List Frame → Type 0
Standing k [] = k ≡ 0
Standing k (f ∷ fs) = Forest f.first k f.rows × Standing f.first fs

standing_top : (k : ℕ) (g : Frame → Frame) (fs : List Frame) → ((f : Frame) → Forest f.first k f.rows → Forest (g f).first k (g f).rows) → ((f : Frame) → (g f).first ≡ f.first)
    → Standing k fs → Standing k (on_top g fs)
standing_top k g [] h e s = s
standing_top k g (f ∷ fs) h e s = (h f s.0, subst (λ (x : ℕ). Standing x fs) (sym (e f)) s.1)

standing_joined : (k : ℕ) (fs : List Frame) → Standing k fs → Standing k (joined fs)
standing_joined k [] s = s
standing_joined k (f ∷ []) s = s
standing_joined k (f ∷ g ∷ fs) s = (forest_append s.1.0 s.0, s.1.1)

pub standing_eat : (k : ℕ) (fs : List Frame) → Standing k fs → 1 ≤ length fs → Standing (suc k) fs
standing_eat k [] s l = absurd (omega arith)
standing_eat k (f ∷ fs) s l = (forest_more (suc k) s.0 (omega arith), s.1)

-- a row over all of a frame's rows
over : (n k : ℕ) (f : Frame) → Forest f.first k f.rows → Forest f.first k (rowed n k f).rows
over n k f h =
    let l = forest_le h in
    let z : k ≡ f.first + (k - f.first) = omega arith in
    tree {lo = f.first} {hi = k} {r = frame_row n k f} (omega arith) (forest_more (f.first + (k - f.first)) h (omega arith)) refl (bare {lo = f.first + (k - f.first)} {hi = k} (omega arith)) (append-nil f.rows)

module _ (alike : ℕ → ℕ → Bool) (k : ℕ) (s t : State) where
  to : (u : State) → u ≡ t → Standing k u.frames → Standing k t.frames
  to u e h = subst (λ (x : State). Standing k x.frames) e h

  pub kept : (a : ℕ) → does alike a k s ≡ go t → Standing k s.frames → Standing k t.frames
  unfolding does
  kept zero e h = to (record { frames = fresh k ∷ s.frames; depth = s.depth }) (cc) (bare {lo = k} {hi = k} (omega arith), h)
  kept (suc zero) e h = to (record { frames = joined s.frames; depth = s.depth }) (cc) (standing_joined k s.frames h)
  kept (suc (suc zero)) e h = to (record { frames = on_top (marked (k - 1)) s.frames; depth = s.depth }) (cc) (standing_top k (marked (k - 1)) s.frames (λ f x. x) (λ f. refl) h)
  kept (suc (suc (suc zero))) e h = to (record { frames = on_top (named k) s.frames; depth = s.depth }) (cc) (standing_top k (named k) s.frames (λ f x. x) (λ f. refl) h)
  kept (suc (suc (suc (suc zero)))) e h = to s (same_name_lem s t (frame_is_named alike (top s.frames).name (k - 1)) e) h
  kept (suc (suc (suc (suc (suc zero))))) e h = subst (Standing k) (deeper_frames s t (ltb s.depth 32) e) h
  kept (suc (suc (suc (suc (suc (suc zero)))))) e h = to (record { frames = s.frames; depth = s.depth - 1 }) (cc) h
  kept (suc (suc (suc (suc (suc (suc (suc n))))))) e h =
      to (record { frames = on_top (rowed n k) s.frames; depth = s.depth }) (cc) (standing_top k (rowed n k) s.frames (over n k) (λ f. refl) h)

stands : (alike : ℕ → ℕ → Bool) {α : List Sym} {k : ℕ} {s t : State} {w : List ℕ} → Reads State Refusal forms (does alike) α k s w t → Nested s α → Standing k s.frames
    → Standing (k + length w) t.frames
stands alike {k = k} {t = t} done n h = let z : k ≡ k + 0 = omega arith in subst (λ (x : ℕ). Standing x t.frames) z h
stands alike (eat {a = a} {k = k} {α = α} {w = w} {s = s} {s' = t} r) n h =
    let z : suc k + length w ≡ k + suc (length w) = omega arith in
    let i = n.inner_is in
    subst (λ (x : ℕ). Standing x t.frames) z (stands alike r (nested_eat a α s n) (standing_eat k s.frames h (omega arith)))
stands alike (acts {a = a} {k = k} {α = α} {s = s} {t = u} e r) n h = stands alike r (nested_act alike k a α s u e n) (kept alike k s u a e h)
stands alike (grow {n = m} {α = α} {s = s} p l e r) n h = stands alike r (nested_grow p l m α s n) h

-- the rows of a reading, from any name, are a forest within its elements
pub forest_from : (m : ℕ) (alike : ℕ → ℕ → Bool) (w : List ℕ) (s : State) → Reads State Refusal forms (does alike) (nt m ∷ []) 0 start w s → Forest 0 (length w) (state_rows s)
forest_from m alike w s r =
    let z : 0 + length w ≡ length w = omega arith in
    only s.frames (frame_left m alike w s r) (subst (λ (x : ℕ). Standing x s.frames) z (stands alike r (nested_from m) (bare {lo = 0} {hi = 0} (omega arith), refl)))
  where
    only : (fs : List Frame) → length fs ≡ 1 → Standing (length w) fs → Forest 0 (length w) (top fs).rows
    only [] e h = absurd (omega arith)
    only (f ∷ []) e h = subst (λ (x : ℕ). Forest x (length w) f.rows) h.1 h.0
    only (f ∷ g ∷ fs) e h = absurd (omega arith)

-- and so are those of a file
pub rows_forest : (alike : ℕ → ℕ → Bool) (w : List ℕ) (s : State) → Reading alike w s → Forest 0 (length w) (state_rows s)
rows_forest = forest_from 0
