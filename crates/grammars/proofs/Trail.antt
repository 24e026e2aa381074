-- A reading as far as it got, whatever its end: what the machine ate, did and grew, with no steps counted. What holds along every trail
-- holds of the machine. Assumes nothing.
use Prim.Native.Nat.{ℕ, zero, suc, ◌<◌}
use mathlib.Core.Path.{◌≡◌, refl, subst}
use mathlib.Core.List.{List, [], ◌∷◌, ◌++◌}
use mathlib.Core.Bool.{Bool, true, false, cond}
use lib.Dec.{eqb}
use borrow.Author.Tests.{eqb-true}
use Rattle.grammars.specs.code.Grammar.{Sym, tok, nt, act, Grammar, look}
use Rattle.grammars.specs.code.Actions.{Step, go, stop, End, read, bad, stopped, spent, choose_end, go_on, runs}

-- From the row of symbols α, element k and the state s, the elements left being of the kinds w, a reading ends so.
pub data Trail (S R : Type 0) (G : Grammar) (does : ℕ → ℕ → S → Step S R) : List Sym → ℕ → S → List ℕ → End S R → Type 0 where
  whole : {k : ℕ} {s : S} → Trail S R G does [] k s [] (read s)
  more : {t k : ℕ} {w : List ℕ} {s : S} → Trail S R G does [] k s (t ∷ w) (bad k)
  other : {a k : ℕ} {α : List Sym} {w : List ℕ} {s : S} → Trail S R G does (tok a ∷ α) k s w (bad k)
  none : {n k : ℕ} {α : List Sym} {w : List ℕ} {s : S} → Trail S R G does (nt n ∷ α) k s w (bad k)
  refuses : {a k : ℕ} {α : List Sym} {w : List ℕ} {s : S} {r : R} → does a k s ≡ stop r → Trail S R G does (act a ∷ α) k s w (stopped k r)
  eats : {a k : ℕ} {α : List Sym} {w : List ℕ} {s : S} {o : End S R} → Trail S R G does α (suc k) s w o → Trail S R G does (tok a ∷ α) k s (a ∷ w) o
  acts : {a k : ℕ} {α : List Sym} {w : List ℕ} {s t : S} {o : End S R} → does a k s ≡ go t → Trail S R G does α k t w o → Trail S R G does (act a ∷ α) k s w o
  grows : {n k : ℕ} {α : List Sym} {w : List ℕ} {s : S} {o : End S R} (p : ℕ) → p < G.count → G.lhs p ≡ n → Trail S R G does (G.body p ++ α) k s w o
      → Trail S R G does (nt n ∷ α) k s w o

module _ {S R : Type 0} (G : Grammar) (predict : ℕ → ℕ → ℕ) (does : ℕ → ℕ → S → Step S R) (table : (n t p : ℕ) → predict n t ≡ suc p → (p < G.count) × (G.lhs p ≡ n)) where
  abbrev Left : List Sym → ℕ → S → List ℕ → End S R → Type 0
  Left α k s w o = (o ≡ spent → ⊥) → Trail S R G does α k s w o

  ate : (a t k : ℕ) (α : List Sym) (w : List ℕ) (s : S) (o : End S R) → Left α (suc k) s w o → (b : Bool) → eqb a t ≡ b → Left (tok a ∷ α) k s (t ∷ w) (cond b o (bad k))
  ate a t k α w s o ih true q d = subst (λ (x : ℕ). Trail S R G does (tok a ∷ α) k s (x ∷ w) o) (eqb-true a t q) (eats (ih d))
  ate a t k α w s o ih false q d = other

  did : (a k : ℕ) (α : List Sym) (w : List ℕ) (s : S) (f : S → End S R) → ((t : S) → Left α k t w (f t)) → (x : Step S R) → does a k s ≡ x → Left (act a ∷ α) k s w (go_on x k f)
  did a k α w s f ih (go t) q d = acts q (ih t d)
  did a k α w s f ih (stop r) q d = refuses q

  grew : (n k : ℕ) (α : List Sym) (w : List ℕ) (s : S) (f : ℕ → End S R) → ((p : ℕ) → Left (G.body p ++ α) k s w (f p)) → (c : ℕ) → predict n (look w) ≡ c → Left (nt n ∷ α) k s w (choose_end c k f)
  grew n k α w s f ih zero q d = none
  grew n k α w s f ih (suc p) q d = let h = table n (look w) p q in grows p h.0 h.1 (ih p d)

  pub trail : (f : ℕ) (α : List Sym) (w : List ℕ) (k : ℕ) (s : S) → Left α k s w (runs G.body predict does f α w k s)
  unfolding runs
  trail zero α w k s d = absurd (d refl)
  trail (suc f) [] [] k s d = whole
  trail (suc f) [] (t ∷ w) k s d = more
  trail (suc f) (tok a ∷ α) [] k s d = other
  trail (suc f) (tok a ∷ α) (t ∷ w) k s d = ate a t k α w s (runs G.body predict does f α w (suc k) s) (trail f α w (suc k) s) (eqb a t) refl d
  trail (suc f) (act a ∷ α) w k s d = did a k α w s (λ t. runs G.body predict does f α w k t) (λ t. trail f α w k t) (does a k s) refl d
  trail (suc f) (nt n ∷ α) w k s d = grew n k α w s (λ p. runs G.body predict does f (G.body p ++ α) w k s) (λ p. trail f (G.body p ++ α) w k s) (predict n (look w)) refl d
