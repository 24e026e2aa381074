-- No row has form 0: no rule makes one. Assumes nothing.
use Prim.Native.Nat.{ℕ, zero, suc, ◌+◌, ◌-◌, ◌≤◌, ◌<◌}
use mathlib.Core.Path.{◌≡◌, subst}
use mathlib.Core.List.{List, [], ◌∷◌, ◌++◌}
use mathlib.Core.Bool.{Bool, true, false, not, ◌&&◌, cond}
use native.Mathlib.Omega.{arith}
use lib.Dec.{T, eqb, ltb}
use Rattle.laws.proofs.Laws.{clash}
use Rattle.grammars.specs.code.Grammar.{Sym, tok, nt, act}
use Rattle.grammars.specs.code.Actions.{go, stop, Reads, done, eat, acts, grow}
use Rattle.grammars.proofs.Theory.{and_left, and_right}
use Rattle.grammars.proofs.Check.{below_at}
use Rattle.forms.specs.code.Rules.{forms, body}
use Rattle.forms.specs.Tree.{Row}
use Rattle.forms.specs.code.RuleActions.{Frame, State, Refusal, name_differs, too_deep, fresh, top, on_top, joined, marked, named, rowed, frame_is_named, does}

abbrev pub Positive : List Row → Type 0
Positive [] = Unit {0}
Positive (r ∷ rs) = (1 ≤ r.form) × Positive rs

abbrev pub AllPositive : List Frame → Type 0
AllPositive [] = Unit {0}
AllPositive (f ∷ fs) = Positive f.rows × AllPositive fs

positive_append : (rs qs : List Row) → Positive rs → Positive qs → Positive (rs ++ qs)
positive_append [] qs p q = q
positive_append (r ∷ rs) qs p q = (p.0, positive_append rs qs p.1 q)

all_joined : (fs : List Frame) → AllPositive fs → AllPositive (joined fs)
all_joined [] h = tt
all_joined (f ∷ []) h = h
all_joined (f ∷ g ∷ fs) h = (positive_append g.rows f.rows h.1.0 h.0, h.1.1)

all_top : (g : Frame → Frame) (fs : List Frame) → ((f : Frame) → Positive f.rows → Positive (g f).rows) → AllPositive fs → AllPositive (on_top g fs)
all_top g [] k h = tt
all_top g (f ∷ fs) k h = (k f h.0, h.1)

-- the action that would make a row of form 0
abbrev pub fair : List Sym → Bool
fair [] = true
fair (tok a ∷ α) = fair α
fair (act a ∷ α) = not (eqb a 7) && fair α
fair (nt n ∷ α) = fair α

fair_append : (β α : List Sym) → T (fair β) → T (fair α) → T (fair (β ++ α))
fair_append [] α b a = a
fair_append (tok x ∷ β) α b a = fair_append β α b a
fair_append (act x ∷ β) α b a = both (not (eqb x 7)) (fair β) (fair (β ++ α)) b (λ c. fair_append β α c a)
  where
    both : (p q r : Bool) → T (p && q) → (T q → T r) → T (p && r)
    both true q r h f = f h
    both false q r h f = h
fair_append (nt n ∷ β) α b a = fair_append β α b a

rule_fair : (p : ℕ) → p < forms.count → T (fair (body p))
rule_fair p l = below_at forms.count (λ p. fair (body p)) tt p l

pub picked : (b : Bool) (t : State) (r : Refusal) (u : State) → cond b (go t) (stop r) ≡ go u → t ≡ u
picked true t r u e = cc
picked false t r u e = let z : ◌≡◌ {A = ℕ} 0 1 = cc in clash z

module _ (alike : ℕ → ℕ → Bool) (k : ℕ) (s t : State) where
  to : (u : State) → u ≡ t → AllPositive u.frames → AllPositive t.frames
  to u e h = subst (λ (x : State). AllPositive x.frames) e h

  kept : (a : ℕ) → does alike a k s ≡ go t → T (not (eqb a 7)) → AllPositive s.frames → AllPositive t.frames
  unfolding does
  kept zero e q h = to (record { frames = fresh k ∷ s.frames; depth = s.depth }) (cc) (tt, h)
  kept (suc zero) e q h = to (record { frames = joined s.frames; depth = s.depth }) (cc) (all_joined s.frames h)
  kept (suc (suc zero)) e q h = to (record { frames = on_top (marked (k - 1)) s.frames; depth = s.depth }) (cc) (all_top (marked (k - 1)) s.frames (λ f x. x) h)
  kept (suc (suc (suc zero))) e q h = to (record { frames = on_top (named k) s.frames; depth = s.depth }) (cc) (all_top (named k) s.frames (λ f x. x) h)
  kept (suc (suc (suc (suc zero)))) e q h = to s (picked (frame_is_named alike (top s.frames).name (k - 1)) s name_differs t e) h
  kept (suc (suc (suc (suc (suc zero))))) e q h = to (record { frames = s.frames; depth = s.depth + 1 }) (picked (ltb s.depth 32) (record { frames = s.frames; depth = s.depth + 1 }) too_deep t e) h
  kept (suc (suc (suc (suc (suc (suc zero)))))) e q h = to (record { frames = s.frames; depth = s.depth - 1 }) (cc) h
  kept (suc (suc (suc (suc (suc (suc (suc zero))))))) e q h = absurd q
  kept (suc (suc (suc (suc (suc (suc (suc (suc n)))))))) e q h =
      to (record { frames = on_top (rowed (suc n) k) s.frames; depth = s.depth }) (cc) (all_top (rowed (suc n) k) s.frames (λ f x. (omega arith, x)) h)

pub all_positive : (alike : ℕ → ℕ → Bool) {α : List Sym} {k : ℕ} {s t : State} {w : List ℕ} → Reads State Refusal forms (does alike) α k s w t
    → T (fair α) → AllPositive s.frames → AllPositive t.frames
all_positive alike done q h = h
all_positive alike (eat r) q h = all_positive alike r q h
all_positive alike (acts {a = a} {k = k} {α = α} {s = s} {t = t} e r) q h =
    all_positive alike r (and_right (not (eqb a 7)) (fair α) q) (kept alike k s t a e (and_left (not (eqb a 7)) (fair α) q) h)
all_positive alike (grow {α = α} p l e r) q h = all_positive alike r (fair_append (body p) α (rule_fair p l) q) h

pub top_positive : (fs : List Frame) → AllPositive fs → Positive (top fs).rows
top_positive [] h = tt
top_positive (f ∷ fs) h = h.0
