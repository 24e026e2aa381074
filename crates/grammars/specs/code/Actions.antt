-- Actions: what a rule does beside reading. A reading carries a state; an action before element k makes the next state of it, or
-- refuses. `Reads` says what a row of symbols reads and what becomes of the state, with no machine in sight; `runs` is the machine.
-- Assumes nothing: these are definitions.
use Rattle.std.specs.Prelude.{ℕ, zero, suc, ◌<◌, ◌≡◌, List, [], ◌∷◌, ◌++◌, cond, eqb}
use Rattle.grammars.specs.code.Grammar.{Sym, tok, nt, act, Grammar, look}

-- what an action answers: the next state, or a refusal
pub data Step (S R : Type 0) : Type 0 where
  go : S → Step S R
  stop : R → Step S R

-- The row of symbols α, from element k and the state s, can be read as the kinds w, and leaves the state s'.
pub data Reads (S R : Type 0) (G : Grammar) (does : ℕ → ℕ → S → Step S R) : List Sym → ℕ → S → List ℕ → S → Type 0 where
  done : {k : ℕ} {s : S} → Reads S R G does [] k s [] s
  eat : {a k : ℕ} {α : List Sym} {w : List ℕ} {s s' : S} → Reads S R G does α (suc k) s w s' → Reads S R G does (tok a ∷ α) k s (a ∷ w) s'
  acts : {a k : ℕ} {α : List Sym} {w : List ℕ} {s t s' : S} → does a k s ≡ go t → Reads S R G does α k t w s' → Reads S R G does (act a ∷ α) k s w s'
  grow : {n k : ℕ} {α : List Sym} {w : List ℕ} {s s' : S} (p : ℕ) → p < G.count → G.lhs p ≡ n → Reads S R G does (G.body p ++ α) k s w s'
      → Reads S R G does (nt n ∷ α) k s w s'

-- how the machine ends: all read, with the last state; element k does not go on; an action refused when k were read; out of steps
pub data End (S R : Type 0) : Type 0 where
  read : S → End S R
  bad : ℕ → End S R
  stopped : ℕ → R → End S R
  spent : End S R

-- a rule's number and one more, or 0 where no rule fits
abbrev pub choose_end : {S R : Type 0} → ℕ → ℕ → (ℕ → End S R) → End S R
choose_end zero k f = bad k
choose_end (suc p) k f = f p

abbrev pub go_on : {S R : Type 0} → Step S R → ℕ → (S → End S R) → End S R
go_on (go s) k f = f s
go_on (stop r) k f = stopped k r

-- what is left to read is α, the elements left are w, k were read, the state is s: at most f steps
unfoldable pub runs : {S R : Type 0} → (ℕ → List Sym) → (ℕ → ℕ → ℕ) → (ℕ → ℕ → S → Step S R) → ℕ → List Sym → List ℕ → ℕ → S → End S R
runs body predict does zero α w k s = spent
runs body predict does (suc f) [] [] k s = read s
runs body predict does (suc f) [] (t ∷ w) k s = bad k
runs body predict does (suc f) (tok a ∷ α) [] k s = bad k
runs body predict does (suc f) (tok a ∷ α) (t ∷ w) k s = cond (eqb a t) (runs body predict does f α w (suc k) s) (bad k)
runs body predict does (suc f) (act a ∷ α) w k s = go_on (does a k s) k (λ t. runs body predict does f α w k t)
runs body predict does (suc f) (nt n ∷ α) w k s = choose_end (predict n (look w)) k (λ p. runs body predict does f (body p ++ α) w k s)
