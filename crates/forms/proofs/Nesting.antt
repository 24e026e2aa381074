-- What an action leaves of the nesting: frames close only what was opened, and so do parentheses, branches, loops, processes and
-- blocks; a whole reading leaves the file's own frame alone. Assumes nothing.
use Prim.Native.Nat.{ℕ, zero, suc, ◌+◌, ◌-◌, ◌≤◌, ◌<◌}
use mathlib.Core.Path.{◌≡◌, refl, sym as flip, ◌∙◌, ap, subst}
use mathlib.Core.Bool.{Bool, true, false, cond}
use mathlib.Core.List.{List, [], ◌∷◌, ◌++◌}
use native.Mathlib.Omega.{arith}
use native.Mathlib.Numerals.{add-one}
use lib.Dec.{ltb}
use lib.ListN.{length}
use borrow.Author.Tests.{ltb-true}
use Rattle.laws.proofs.Laws.{clash}
use Rattle.grammars.specs.code.Grammar.{Sym, tok, nt, act}
use Rattle.grammars.specs.code.Actions.{go, stop, Reads, done, eat, acts, grow}
use Rattle.grammars.proofs.Room as room
use Rattle.forms.specs.code.RuleNames.{file}
use Rattle.forms.specs.code.Rules.{forms, body}
use Rattle.forms.specs.code.RuleActions.{Frame, State, Refusal, too_deep, fresh, top, on_top, joined, marked, named, rowed, does, start, frame_is_named, Reading}
use Rattle.forms.proofs.Tests as tests
use Rattle.forms.proofs.Steps.{same_name_lem}

pub top_size : (g : Frame → Frame) (fs : List Frame) → length (on_top g fs) ≡ length fs
top_size g [] = refl
top_size g (f ∷ fs) = refl

pub joined_less : (fs : List Frame) → 2 ≤ length fs → length (joined fs) + 1 ≡ length fs
joined_less [] h = absurd (omega arith)
joined_less (f ∷ []) h = absurd (omega arith)
joined_less (f ∷ g ∷ fs) h = omega arith

pub joined_few : (fs : List Frame) → length fs < 2 → length (joined fs) ≡ length fs
joined_few [] h = refl
joined_few (f ∷ []) h = refl
joined_few (f ∷ g ∷ fs) h = absurd (omega arith)

abbrev pub Open : ℕ → List Sym → Type 0
Open = room.Nest tests.deepening tests.ending 0

abbrev pub Inner : ℕ → List Sym → Type 0
Inner = room.Nest tests.opening tests.closing 0

-- what an action leaves of the nesting
pub record Nested (t : State) (α : List Sym) : Type 0 where
  pub inner : ℕ
  pub inner_is : length t.frames ≡ suc inner
  pub frame_nest : Inner inner α
  pub open_nest : Open t.depth α
  pub most : t.depth ≤ 32

module _ (alike : ℕ → ℕ → Bool) (k : ℕ) (s t : State) (α : List Sym) (i : ℕ) (size : length s.frames ≡ suc i) (low : s.depth ≤ 32) where
  -- an action that moves neither count
  plain_act : (a : ℕ) → (a ≡ 0 → ⊥) → (a ≡ 1 → ⊥) → (a ≡ 5 → ⊥) → (a ≡ 6 → ⊥) → length t.frames ≡ length s.frames → t.depth ≡ s.depth
      → Inner i (act a ∷ α) → Open s.depth (act a ∷ α) → Nested t α
  plain_act a d0 d1 d5 d6 e f n o =
      record {
        inner = i;
        inner_is = e ∙ size;
        frame_nest = room.nest_other 0 1 0 i a α d0 d1 n;
        open_nest = subst (λ (x : ℕ). Open x α) (flip f) (room.nest_other 5 6 0 s.depth a α d5 d6 o);
        most = omega arith;
      }

  below_most : (b : Bool) → ltb s.depth 32 ≡ b → cond b (go (record { frames = s.frames; depth = s.depth + 1 })) (stop too_deep) ≡ go t
      → (◌≡◌ {A = State} (record { frames = s.frames; depth = s.depth + 1 }) t) × (s.depth < 32)
  below_most true q e = (cc, ltb-true s.depth 32 q)
  below_most false q e = let z : ◌≡◌ {A = ℕ} 0 1 = cc in clash z

  pub moved : (a : ℕ) → does alike a k s ≡ go t → Inner i (act a ∷ α) → Open s.depth (act a ∷ α) → Nested t α
  unfolding does
  moved zero e n o =
      let z : ◌≡◌ {A = State} (record { frames = fresh k ∷ s.frames; depth = s.depth }) t = cc in
      let zf = ap (λ (x : State). length x.frames) z in
      let zd = ap (λ (x : State). x.depth) z in
      record {
        inner = suc i;
        inner_is = flip zf ∙ ap suc size;
        frame_nest = n;
        open_nest = subst (λ (x : ℕ). Open x α) zd o;
        most = omega arith;
      }
  moved (suc zero) e n o =
      let z : ◌≡◌ {A = State} (record { frames = joined s.frames; depth = s.depth }) t = cc in
      let zf = ap (λ (x : State). length x.frames) z in
      let zd = ap (λ (x : State). x.depth) z in
      let l : 1 ≤ i = n.0 in
      record {
        inner = i - 1;
        inner_is = omega (arith, joined_less s.frames (omega arith));
        frame_nest = n.1;
        open_nest = subst (λ (x : ℕ). Open x α) zd o;
        most = omega arith;
      }
  moved (suc (suc zero)) e n o =
      let z : ◌≡◌ {A = State} (record { frames = on_top (marked (k - 1)) s.frames; depth = s.depth }) t = cc in
      plain_act 2 (λ z. absurd (omega arith)) (λ z. absurd (omega arith)) (λ z. absurd (omega arith)) (λ z. absurd (omega arith))
      (flip (ap (λ (x : State). length x.frames) z) ∙ top_size (marked (k - 1)) s.frames) (flip (ap (λ (x : State). x.depth) z)) n o
  moved (suc (suc (suc zero))) e n o =
      let z : ◌≡◌ {A = State} (record { frames = on_top (named k) s.frames; depth = s.depth }) t = cc in
      plain_act 3 (λ z. absurd (omega arith)) (λ z. absurd (omega arith)) (λ z. absurd (omega arith)) (λ z. absurd (omega arith))
      (flip (ap (λ (x : State). length x.frames) z) ∙ top_size (named k) s.frames) (flip (ap (λ (x : State). x.depth) z)) n o
  moved (suc (suc (suc (suc zero)))) e n o =
      let z : s ≡ t = same_name_lem s t (frame_is_named alike (top s.frames).name (k - 1)) e in
      plain_act 4 (λ z. absurd (omega arith)) (λ z. absurd (omega arith)) (λ z. absurd (omega arith)) (λ z. absurd (omega arith))
      (flip (ap (λ (x : State). length x.frames) z)) (flip (ap (λ (x : State). x.depth) z)) n o
  moved (suc (suc (suc (suc (suc zero))))) e n o =
      let y = below_most (ltb s.depth 32) refl e in
      let zd : s.depth + 1 ≡ t.depth = ap (λ (x : State). x.depth) y.0 in
      record {
        inner = i;
        inner_is = flip (ap (λ (x : State). length x.frames) y.0) ∙ size;
        frame_nest = n;
        open_nest = subst (λ (x : ℕ). Open x α) (flip (add-one s.depth) ∙ zd) o;
        most = omega (arith, y.1);
      }
  moved (suc (suc (suc (suc (suc (suc zero)))))) e n o =
      let z : ◌≡◌ {A = State} (record { frames = s.frames; depth = s.depth - 1 }) t = cc in
      let zd : s.depth - 1 ≡ t.depth = ap (λ (x : State). x.depth) z in
      record {
        inner = i;
        inner_is = flip (ap (λ (x : State). length x.frames) z) ∙ size;
        frame_nest = n;
        open_nest = subst (λ (x : ℕ). Open x α) zd o.1;
        most = omega arith;
      }
  moved (suc (suc (suc (suc (suc (suc (suc f))))))) e n o =
      let z : ◌≡◌ {A = State} (record { frames = on_top (rowed f k) s.frames; depth = s.depth }) t = cc in
      plain_act (suc (suc (suc (suc (suc (suc (suc f))))))) (λ z. absurd (omega arith)) (λ z. absurd (omega arith)) (λ z. absurd (omega arith)) (λ z. absurd (omega arith))
      (flip (ap (λ (x : State). length x.frames) z) ∙ top_size (rowed f k) s.frames) (flip (ap (λ (x : State). x.depth) z)) n o

-- a reading nests to its end
pub nested_grow : (p : ℕ) → p < forms.count → (n : ℕ) (α : List Sym) (s : State) → Nested s (nt n ∷ α) → Nested s (body p ++ α)
nested_grow p b n α s h =
    record {
      inner = h.inner;
      inner_is = h.inner_is;
      frame_nest = room.nest_grow tests.opening tests.closing 0 h.inner (body p) α (tests.frames_nest p b) h.frame_nest;
      open_nest = room.nest_grow tests.deepening tests.ending 0 s.depth (body p) α (tests.open_nests p b) h.open_nest;
      most = h.most;
    }

pub nested_eat : (a : ℕ) (α : List Sym) (s : State) → Nested s (tok a ∷ α) → Nested s α
nested_eat a α s h = record { inner = h.inner; inner_is = h.inner_is; frame_nest = h.frame_nest; open_nest = h.open_nest; most = h.most }

pub nested_act : (alike : ℕ → ℕ → Bool) (k a : ℕ) (α : List Sym) (s t : State) → does alike a k s ≡ go t → Nested s (act a ∷ α) → Nested t α
nested_act alike k a α s t e h = moved alike k s t α h.inner h.inner_is h.most a e h.frame_nest h.open_nest

pub nested_from : (m : ℕ) → Nested start (nt m ∷ [])
nested_from m = record { inner = 0; inner_is = refl; frame_nest = refl; open_nest = refl; most = omega arith }

pub nested_start : Nested start (file ∷ [])
nested_start = nested_from 0

nested_reads : (alike : ℕ → ℕ → Bool) {α : List Sym} {k : ℕ} {s t : State} {w : List ℕ} → Reads State Refusal forms (does alike) α k s w t → Nested s α → Nested t []
nested_reads alike done h = h
nested_reads alike (eat {a = a} {α = α} {s = s} r) h = nested_reads alike r (nested_eat a α s h)
nested_reads alike (acts {a = a} {k = k} {α = α} {s = s} {t = t} e r) h = nested_reads alike r (nested_act alike k a α s t e h)
nested_reads alike (grow {n = n} {α = α} {s = s} p l e r) h = nested_reads alike r (nested_grow p l n α s h)

pub frame_left : (m : ℕ) (alike : ℕ → ℕ → Bool) (w : List ℕ) (s : State) → Reads State Refusal forms (does alike) (nt m ∷ []) 0 start w s → length s.frames ≡ 1
frame_left m alike w s r = let n = nested_reads alike r (nested_from m) in n.inner_is ∙ ap suc n.frame_nest

pub one_frame : (alike : ℕ → ℕ → Bool) (w : List ℕ) (s : State) → Reading alike w s → length s.frames ≡ 1
one_frame = frame_left 0
