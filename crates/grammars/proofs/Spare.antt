-- How often actions of one sort can happen: no more often than elements are read, and as what is left to read still promises. A hint
-- table says how many more a name may do than it reads; a computed test to a rule says that the table serves. Assumes nothing.
use Prim.Native.Nat.{ℕ, suc, ◌+◌, ◌≤◌}
use mathlib.Core.Path.{◌≡◌}
use mathlib.Core.List.{List, [], ◌∷◌, ◌++◌}
use mathlib.Core.Bool.{Bool, true, false}
use native.Mathlib.Omega.{arith}
use lib.Dec.{leb}
use lib.ListN.{length}
use Rattle.grammars.specs.code.Grammar.{Sym, tok, nt, act}
use Rattle.grammars.proofs.Room.{pick_n}

-- elements and names
abbrev pub credit : List Sym → ℕ
credit [] = 0
credit (tok a ∷ α) = suc (credit α)
credit (act a ∷ α) = credit α
credit (nt n ∷ α) = suc (credit α)

pub credit_length : (α : List Sym) → credit α ≤ length α
credit_length [] = omega arith
credit_length (tok a ∷ α) = omega (arith, credit_length α)
credit_length (act a ∷ α) = omega (arith, credit_length α)
credit_length (nt n ∷ α) = omega (arith, credit_length α)

credit_append : (β α : List Sym) → credit (β ++ α) ≡ credit β + credit α
credit_append [] α = omega arith
credit_append (tok a ∷ β) α = omega (arith, credit_append β α)
credit_append (act a ∷ β) α = credit_append β α
credit_append (nt n ∷ β) α = omega (arith, credit_append β α)

module _ (sort : ℕ → Bool) (spare : ℕ → ℕ) where
  -- the actions of the sort, and what the names may do
  abbrev pub debit : List Sym → ℕ
  debit [] = 0
  debit (tok a ∷ α) = debit α
  debit (act a ∷ α) = pick_n (sort a) (suc (debit α)) (debit α)
  debit (nt n ∷ α) = spare n + debit α

  debit_append : (β α : List Sym) → debit (β ++ α) ≡ debit β + debit α
  debit_append [] α = omega arith
  debit_append (tok a ∷ β) α = debit_append β α
  debit_append (act a ∷ β) α = go (sort a) (debit_append β α)
    where
      go : (b : Bool) → debit (β ++ α) ≡ debit β + debit α → pick_n b (suc (debit (β ++ α))) (debit (β ++ α)) ≡ pick_n b (suc (debit β)) (debit β) + debit α
      go true h = omega arith
      go false h = h
  debit_append (nt n ∷ β) α = omega (arith, debit_append β α)

  -- a rule's test
  abbrev pub spares : ℕ → List Sym → Bool
  spares n β = leb (debit β + 1) (credit β + spare n)

  -- with `used` done and `at` read, α left to read: fewer are done than read, once all is read
  abbrev pub Fewer : ℕ → ℕ → List Sym → Type 0
  Fewer used at α = used + debit α + 1 ≤ at + credit α

  pub fewer_grow : (used at n : ℕ) (β α : List Sym) → debit β + 1 ≤ credit β + spare n → Fewer used at (nt n ∷ α) → Fewer used at (β ++ α)
  fewer_grow used at n β α t h = omega (arith, debit_append β α, credit_append β α)

  pub fewer_eat : (used at a : ℕ) (α : List Sym) → Fewer used at (tok a ∷ α) → Fewer used (at + 1) α
  fewer_eat used at a α h = omega arith

  pub fewer_done : (used at a : ℕ) (α : List Sym) → sort a ≡ true → Fewer used at (act a ∷ α) → Fewer (used + 1) at α
  fewer_done used at a α e h = go (sort a) e h
    where
      go : (b : Bool) → b ≡ true → used + pick_n b (suc (debit α)) (debit α) + 1 ≤ at + credit α → used + 1 + debit α + 1 ≤ at + credit α
      go true e h = omega arith
      go false e h = let z : ◌≡◌ {A = ℕ} 0 1 = cc in absurd (omega arith)

  pub fewer_other : (used at a : ℕ) (α : List Sym) → Fewer used at (act a ∷ α) → Fewer used at α
  fewer_other used at a α h = go (sort a) h
    where
      go : (b : Bool) → used + pick_n b (suc (debit α)) (debit α) + 1 ≤ at + credit α → used + debit α + 1 ≤ at + credit α
      go true h = omega arith
      go false h = h

  pub fewer_bound : (used at : ℕ) (α : List Sym) → Fewer used at α → used + 1 ≤ at + length α
  fewer_bound used at α h = omega (arith, credit_length α)
