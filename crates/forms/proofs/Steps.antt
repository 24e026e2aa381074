-- What the two actions leave that may refuse: the comparing one what there was, the deepening one the same frames, one deeper. Assumes nothing.
use Prim.Native.Nat.{ℕ, ◌+◌}
use mathlib.Core.Path.{◌≡◌, ap}
use mathlib.Core.Bool.{Bool, true, false, cond}
use Rattle.laws.proofs.Laws.{clash}
use Rattle.grammars.specs.code.Actions.{go, stop}
use Rattle.forms.specs.code.RuleActions.{State, name_differs, too_deep}

abbrev pub deeper : State → State
deeper s = record { frames = s.frames; depth = s.depth + 1 }

module _ (s t : State) where
  pub same_name_lem : (b : Bool) → cond b (go s) (stop name_differs) ≡ go t → s ≡ t
  same_name_lem true e = cc
  same_name_lem false e = let z : ◌≡◌ {A = ℕ} 0 1 = cc in clash z

  pub one_deeper : (b : Bool) → cond b (go (deeper s)) (stop too_deep) ≡ go t → deeper s ≡ t
  one_deeper true e = cc
  one_deeper false e = let z : ◌≡◌ {A = ℕ} 0 1 = cc in clash z

  -- so both leave the frames as they are
  pub named_frames : (b : Bool) → cond b (go s) (stop name_differs) ≡ go t → s.frames ≡ t.frames
  named_frames b e = ap (λ (x : State). x.frames) (same_name_lem b e)

  pub deeper_frames : (b : Bool) → cond b (go (deeper s)) (stop too_deep) ≡ go t → s.frames ≡ t.frames
  deeper_frames b e = ap (λ (x : State). x.frames) (one_deeper b e)
