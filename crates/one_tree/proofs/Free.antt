-- A reading that never refuses: the frames and rows of a reading, with no name compared and no depth counted. Every reading is one.
-- Assumes nothing.
use Prim.Native.Nat.{ℕ, zero, suc, ◌+◌, ◌-◌, ◌<◌}
use mathlib.Core.Path.{◌≡◌, refl, sym, ◌∙◌, ap, subst}
use mathlib.Core.Bool.{Bool}
use mathlib.Core.List.{List, [], ◌∷◌, ◌++◌}
use lib.Dec.{ltb}
use lib.ListN.{length, drop, get_or}
use lib.Seq.{drop-cons}
use Rattle.grammars.specs.code.Grammar.{Sym, tok}
use Rattle.grammars.specs.code.Actions.{Step, go, Reads, done, eat, acts, grow}
use Rattle.forms.specs.code.Rules.{forms}
use Rattle.forms.specs.Tree.{Row}
use Rattle.forms.specs.code.RuleActions.{State, Refusal, name_differs, too_deep, fresh, top, on_top, joined, marked, named, rowed, does, frame_is_named}
use Rattle.forms.specs.code.RuleActions as strict
use Rattle.forms.proofs.Steps.{named_frames, deeper_frames}

-- a frame: its first element, its operator, its rows
pub record Frame : Type 0 where
  pub first : ℕ
  pub operator : ℕ
  pub rows : List Row

abbrev pub frame : ℕ → ℕ → List Row → Frame
frame a o l = record { first = a; operator = o; rows = l }

abbrev join : List Frame → List Frame
join [] = []
join (f ∷ []) = f ∷ []
join (f ∷ g ∷ fs) = frame g.first g.operator (g.rows ++ f.rows) ∷ fs

abbrev mark : ℕ → List Frame → List Frame
mark k [] = []
mark k (f ∷ fs) = frame f.first (k - 1) f.rows ∷ fs

abbrev pub row_over : ℕ → ℕ → Frame → Row
row_over n k f = record { form = n; first = f.first; count = k - f.first; rows = length f.rows + 1; operator = f.operator }

abbrev put : ℕ → ℕ → List Frame → List Frame
put n k [] = []
put n k (f ∷ fs) = frame f.first f.operator (row_over n k f ∷ f.rows) ∷ fs

abbrev pub free : ℕ → ℕ → List Frame → Step (List Frame) (Unit {0})
free zero k fs = go (frame k k [] ∷ fs)
free (suc zero) k fs = go (join fs)
free (suc (suc zero)) k fs = go (mark k fs)
free (suc (suc (suc zero))) k fs = go fs
free (suc (suc (suc (suc zero)))) k fs = go fs
free (suc (suc (suc (suc (suc zero))))) k fs = go fs
free (suc (suc (suc (suc (suc (suc zero)))))) k fs = go fs
free (suc (suc (suc (suc (suc (suc (suc n))))))) k fs = go (put n k fs)

-- the symbols α read what is left of W when k were read, and end with the frames t
abbrev pub Frees : List ℕ → List Frame → List Sym → ℕ → List Frame → Type 0
Frees W t α k fs = Reads (List Frame) (Unit {0}) forms free α k fs (drop k W) t

pub eaten : (W : List ℕ) (t : List Frame) (α : List Sym) (k a : ℕ) (fs : List Frame) → k < length W → get_or W k 0 ≡ a → Frees W t α (suc k) fs → Frees W t (tok a ∷ α) k fs
eaten W t α k a fs l e r =
    subst (λ (w : List ℕ). Reads (List Frame) (Unit {0}) forms free (tok a ∷ α) k fs w t) (sym (drop-cons W k 0 l ∙ ap (λ (x : ℕ). x ∷ drop (suc k) W) e)) (eat r)

-- the frames of a reading, without their names
abbrev pub bared : List strict.Frame → List Frame
bared [] = []
bared (f ∷ fs) = frame f.first f.operator f.rows ∷ bared fs

bared_join : (fs : List strict.Frame) → join (bared fs) ≡ bared (joined fs)
bared_join [] = refl
bared_join (f ∷ []) = refl
bared_join (f ∷ g ∷ fs) = refl

bared_mark : (k : ℕ) (fs : List strict.Frame) → mark k (bared fs) ≡ bared (on_top (marked (k - 1)) fs)
bared_mark k [] = refl
bared_mark k (f ∷ fs) = refl

bared_name : (k : ℕ) (fs : List strict.Frame) → bared fs ≡ bared (on_top (named k) fs)
bared_name k [] = refl
bared_name k (f ∷ fs) = refl

bared_put : (n k : ℕ) (fs : List strict.Frame) → put n k (bared fs) ≡ bared (on_top (rowed n k) fs)
bared_put n k [] = refl
bared_put n k (f ∷ fs) = refl

module _ (alike : ℕ → ℕ → Bool) (k : ℕ) (s u : State) where
  to : (fs : List Frame) (gs : List strict.Frame) → fs ≡ bared gs → gs ≡ u.frames → ◌≡◌ {A = Step (List Frame) (Unit {0})} (go fs) (go (bared u.frames))
  to fs gs d e = ap go (d ∙ ap bared e)

  of : (x : State) → x ≡ u → x.frames ≡ u.frames
  of x e = ap (λ (y : State). y.frames) e

  free_act : (a : ℕ) → does alike a k s ≡ go u → free a k (bared s.frames) ≡ go (bared u.frames)
  unfolding does
  free_act zero e = to (frame k k [] ∷ bared s.frames) (fresh k ∷ s.frames) refl (of (record { frames = fresh k ∷ s.frames; depth = s.depth }) (cc))
  free_act (suc zero) e = to (join (bared s.frames)) (joined s.frames) (bared_join s.frames) (of (record { frames = joined s.frames; depth = s.depth }) (cc))
  free_act (suc (suc zero)) e =
      to (mark k (bared s.frames)) (on_top (marked (k - 1)) s.frames) (bared_mark k s.frames) (of (record { frames = on_top (marked (k - 1)) s.frames; depth = s.depth }) (cc))
  free_act (suc (suc (suc zero))) e = to (bared s.frames) (on_top (named k) s.frames) (bared_name k s.frames) (of (record { frames = on_top (named k) s.frames; depth = s.depth }) (cc))
  free_act (suc (suc (suc (suc zero)))) e = to (bared s.frames) s.frames refl (named_frames s u (frame_is_named alike (top s.frames).name (k - 1)) e)
  free_act (suc (suc (suc (suc (suc zero))))) e = to (bared s.frames) s.frames refl (deeper_frames s u (ltb s.depth 32) e)
  free_act (suc (suc (suc (suc (suc (suc zero)))))) e = to (bared s.frames) s.frames refl (of (record { frames = s.frames; depth = s.depth - 1 }) (cc))
  free_act (suc (suc (suc (suc (suc (suc (suc n))))))) e =
      to (put n k (bared s.frames)) (on_top (rowed n k) s.frames) (bared_put n k s.frames) (of (record { frames = on_top (rowed n k) s.frames; depth = s.depth }) (cc))

-- every reading is a free one
pub freed : (alike : ℕ → ℕ → Bool) {α : List Sym} {k : ℕ} {s t : State} {w : List ℕ} → Reads State Refusal forms (does alike) α k s w t
    → Reads (List Frame) (Unit {0}) forms free α k (bared s.frames) w (bared t.frames)
freed alike done = done
freed alike (eat r) = eat (freed alike r)
freed alike (acts {a = a} {k = k} {s = s} {t = u} e r) = acts (free_act alike k s u a e) (freed alike r)
freed alike (grow p l e r) = grow p l e (freed alike r)
