-- The machine's steps are bounded: each element pays for `pace` of them, and what is left to read has a cost that every step lowers.
-- A grammar gives two hint tables, and two computed tests to a rule and a name say that they serve. Assumes nothing.
use Prim.Native.Nat.{ℕ, zero, suc, ◌+◌, ◌-◌, ◌*◌, ◌≤◌, ◌<◌}
use mathlib.Core.Path.{◌≡◌, refl, subst}
use mathlib.Core.List.{List, [], ◌∷◌, ◌++◌}
use mathlib.Core.Bool.{Bool, true, false, cond}
use native.Mathlib.Omega.{arith}
use lib.Dec.{T, eqb, leb, leb→le}
use lib.ListN.{length}
use Rattle.laws.proofs.Laws.{clash}
use Rattle.grammars.specs.code.Grammar.{Sym, tok, nt, act, Grammar, look}
use Rattle.grammars.proofs.Running.{Out, bad, spent, choose, run}
use Rattle.grammars.proofs.Theory.{Tables, LL}
use Rattle.grammars.proofs.Check.{below, below_at}

-- how many steps an element pays for
abbrev pub pace : ℕ
pace = 128

-- the weights of the symbols
abbrev pub cost : (ℕ → ℕ) → List Sym → ℕ
cost c [] = 0
cost c (tok a ∷ α) = suc (cost c α)
cost c (act a ∷ α) = suc (cost c α)
cost c (nt n ∷ α) = c n + cost c α

pub cost_append : (c : ℕ → ℕ) (α β : List Sym) → cost c (α ++ β) ≡ cost c α + cost c β
cost_append c [] β = omega arith
cost_append c (tok a ∷ α) β = omega (arith, cost_append c α β)
cost_append c (act a ∷ α) β = omega (arith, cost_append c α β)
cost_append c (nt n ∷ α) β = omega (arith, cost_append c α β)

abbrev at_most1 : ℕ → ℕ
at_most1 zero = 0
at_most1 (suc n) = 1

at_most_1 : (n : ℕ) → at_most1 n ≤ 1
at_most_1 zero = omega arith
at_most_1 (suc n) = omega arith

-- 1 where an element must come next, actions aside; d says which names must read one
abbrev pub lead : (ℕ → ℕ) → List Sym → ℕ
lead d [] = 0
lead d (tok a ∷ α) = 1
lead d (act a ∷ α) = lead d α
lead d (nt n ∷ α) = at_most1 (d n)

lead_append : (d : ℕ → ℕ) (β α : List Sym) → lead d β ≤ lead d (β ++ α)
lead_append d [] α = omega arith
lead_append d (tok a ∷ β) α = omega arith
lead_append d (act a ∷ β) α = lead_append d β α
lead_append d (nt n ∷ β) α = omega arith

lead_one : (d : ℕ → ℕ) (α : List Sym) → lead d α ≤ 1
lead_one d [] = omega arith
lead_one d (tok a ∷ α) = omega arith
lead_one d (act a ∷ α) = lead_one d α
lead_one d (nt n ∷ α) = at_most_1 (d n)

-- what is left to be done: α to read, n elements left
abbrev pub due : (ℕ → ℕ) → (ℕ → ℕ) → List Sym → ℕ → ℕ
due c d α n = cost c α + pace * (n - lead d α)

-- a rule lowers it, where an element is left and at the end
pub record Paid (body : ℕ → List Sym) (predict : ℕ → ℕ → ℕ) (c d : ℕ → ℕ) : Type 0 where
  pub rule : (n t p : ℕ) → predict n t ≡ suc p → cost c (body p) + 1 + pace * at_most1 (d n) ≤ c n + pace * lead d (body p)
  pub end : (n p : ℕ) → predict n 0 ≡ suc p → cost c (body p) + 1 ≤ c n

module _ (body : ℕ → List Sym) (predict : ℕ → ℕ → ℕ) (c d : ℕ → ℕ) (paid : Paid body predict c d) where
  pub due_grow : (n p : ℕ) (α : List Sym) (w : List ℕ) → predict n (look w) ≡ suc p → due c d (body p ++ α) (length w) < due c d (nt n ∷ α) (length w)
  due_grow n p α [] e = omega (arith, paid.end n p e, cost_append c (body p) α)
  due_grow n p α (t ∷ w) e =
      omega (arith, paid.rule n t p e, cost_append c (body p) α, lead_append d (body p) α, lead_one d (body p), lead_one d (body p ++ α), at_most_1 (d n))

  stop_tok : (k : ℕ) (o : Out) → (o ≡ spent → ⊥) → (b : Bool) → cond b o (bad k) ≡ spent → ⊥
  stop_tok k o f true e = f e
  stop_tok k o f false e = let z : ◌≡◌ {A = ℕ} 0 1 = cc in clash z

  stop_nt : (n k : ℕ) (w : List ℕ) (f : ℕ → Out) → (q : ℕ) → predict n (look w) ≡ q → ((p : ℕ) → predict n (look w) ≡ suc p → f p ≡ spent → ⊥) → choose q k f ≡ spent → ⊥
  stop_nt n k w f zero q g e = let z : ◌≡◌ {A = ℕ} 0 1 = cc in clash z
  stop_nt n k w f (suc p) q g e = g p q e

  -- with more steps than are due the machine answers
  pub stops : (f : ℕ) (α : List Sym) (w : List ℕ) (k : ℕ) → due c d α (length w) < f → run body predict f α w k ≡ spent → ⊥
  unfolding run
  stops zero α w k h e = omega arith
  stops (suc f) [] [] k h e = let z : ◌≡◌ {A = ℕ} 0 1 = cc in clash z
  stops (suc f) [] (t ∷ w) k h e = let z : ◌≡◌ {A = ℕ} 0 1 = cc in clash z
  stops (suc f) (tok a ∷ α) [] k h e = let z : ◌≡◌ {A = ℕ} 0 1 = cc in clash z
  stops (suc f) (tok a ∷ α) (t ∷ w) k h e = stop_tok k (run body predict f α w (suc k)) (stops f α w (suc k) (omega arith)) (eqb a t) e
  stops (suc f) (act a ∷ α) w k h e = stops f α w k (omega arith) e
  stops (suc f) (nt n ∷ α) w k h e =
      stop_nt n k w (λ p. run body predict f (body p ++ α) w k) (predict n (look w)) refl (λ p q. stops f (body p ++ α) w k (omega (arith, due_grow n p α w q))) e

-- the two tests, and what they give
module _ (G : Grammar) (predict : ℕ → ℕ → ℕ) (S : Tables) (L : LL G predict S) (c d : ℕ → ℕ) where
  abbrev pub rule_ok : ℕ → Bool
  rule_ok p = leb (cost c (G.body p) + 1 + pace * at_most1 (d (G.lhs p))) (c (G.lhs p) + pace * lead d (G.body p))

  abbrev pub end_ok : ℕ → ℕ → Bool
  end_ok n zero = true
  end_ok n (suc p) = leb (cost c (G.body p) + 1) (c n)

  end_at : (n p q : ℕ) → q ≡ suc p → T (end_ok n q) → cost c (G.body p) + 1 ≤ c n
  end_at n p zero e h = absurd (omega arith)
  end_at n p (suc r) e h =
      let z : r ≡ p = omega arith in
      subst (λ (x : ℕ). cost c (G.body x) + 1 ≤ c n) z (leb→le (cost c (G.body r) + 1) (c n) h)

  owner : (n t p : ℕ) → predict n t ≡ suc p → n < S.nts
  owner n t p e = let h = L.table n t p e in subst (λ (x : ℕ). x < S.nts) h.1 (L.owners p h.0)

  pub paid : T (below G.count rule_ok) → T (below S.nts (λ n. end_ok n (predict n 0))) → Paid G.body predict c d
  paid h g =
      record {
        rule = λ n t p e. subst (λ (x : ℕ). cost c (G.body p) + 1 + pace * at_most1 (d x) ≤ c x + pace * lead d (G.body p)) (L.table n t p e).1
            (leb→le (cost c (G.body p) + 1 + pace * at_most1 (d (G.lhs p))) (c (G.lhs p) + pace * lead d (G.body p)) (below_at G.count rule_ok h p (L.table n t p e).0));
        end = λ n p e. end_at n p (predict n 0) e (below_at S.nts (λ n. end_ok n (predict n 0)) g n (owner n 0 p e));
      }
