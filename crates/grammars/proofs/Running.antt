-- The machine of Actions without its actions: what the theory is proved of first. Assumes nothing: these are definitions.
use Prim.Native.Nat.{ℕ, zero, suc}
use mathlib.Core.List.{List, [], ◌∷◌, ◌++◌}
use mathlib.Core.Bool.{cond}
use lib.Dec.{eqb}
use Rattle.grammars.specs.code.Grammar.{Sym, tok, nt, act, look}

-- how it ends: all read; element k does not go on; out of steps
pub data Out : Type 0 where
  good : Out
  bad : ℕ → Out
  spent : Out

-- a rule's number and one more, or 0 where no rule fits
abbrev pub choose : ℕ → ℕ → (ℕ → Out) → Out
choose zero k f = bad k
choose (suc p) k f = f p

-- what is left to read is α, the elements left are w, and k were read: at most f steps
unfoldable pub run : (ℕ → List Sym) → (ℕ → ℕ → ℕ) → ℕ → List Sym → List ℕ → ℕ → Out
run body predict zero α w k = spent
run body predict (suc f) [] [] k = good
run body predict (suc f) [] (t ∷ w) k = bad k
run body predict (suc f) (tok a ∷ α) [] k = bad k
run body predict (suc f) (tok a ∷ α) (t ∷ w) k = cond (eqb a t) (run body predict f α w (suc k)) (bad k)
run body predict (suc f) (act a ∷ α) w k = run body predict f α w k
run body predict (suc f) (nt n ∷ α) w k = choose (predict n (look w)) k (λ p. run body predict f (body p ++ α) w k)
