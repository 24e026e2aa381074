-- The machine with actions against the grammar's meaning: what it reads is what `Reads` says, and only that; where it refuses an element
-- the machine without actions does; where an action refuses, the elements read so far begin a sentence. Assumes nothing.
use Prim.Native.Nat.{ℕ, zero, suc, ◌≤◌}
use mathlib.Core.Path.{◌≡◌, refl, sym, ◌∙◌, subst}
use mathlib.Core.Logic.{◌⊎◌, inl, inr}
use mathlib.Core.List.{List, [], ◌∷◌, ◌++◌}
use mathlib.Core.Bool.{Bool, true, false, cond}
use native.Mathlib.Omega.{arith}
use lib.Dec.{eqb}
use borrow.Author.Tests.{eq-eqb, eqb-true}
use Rattle.laws.proofs.Laws.{clash}
use Rattle.grammars.specs.code.Grammar.{Sym, tok, nt, act, Grammar, Gen, look}
use Rattle.grammars.proofs.Running.{Out, run, choose}
use Rattle.grammars.specs.code.Grammar as plain
use Rattle.grammars.proofs.Running as running
use Rattle.grammars.specs.code.Actions.{Step, go, stop, Reads, done, eat, acts, grow, End, read, bad, stopped, spent, choose_end, go_on, runs}
use Rattle.grammars.proofs.Theory.{Tables, LL, Fol, picked, fol_grow}

-- a refusal comes at an element that was not read yet
least_tok : (k j : ℕ) (o : Out) → (o ≡ running.Out.bad j → suc k ≤ j) → (b : Bool) → cond b o (running.Out.bad k) ≡ running.Out.bad j → k ≤ j
least_tok k j o ih true e = let h = ih e in omega arith
least_tok k j o ih false e = let z : k ≡ j = cc in omega arith

least_nt : (c k j : ℕ) (f : ℕ → Out) → ((p : ℕ) → f p ≡ running.Out.bad j → k ≤ j) → choose c k f ≡ running.Out.bad j → k ≤ j
least_nt zero k j f ih e = let z : k ≡ j = cc in omega arith
least_nt (suc p) k j f ih e = ih p e

pub least : (body : ℕ → List Sym) (predict : ℕ → ℕ → ℕ) (f : ℕ) (α : List Sym) (w : List ℕ) (k j : ℕ) → run body predict f α w k ≡ running.Out.bad j → k ≤ j
unfolding run
least body predict zero α w k j e = let z : ◌≡◌ {A = ℕ} 0 1 = cc in clash z
least body predict (suc f) [] [] k j e = let z : ◌≡◌ {A = ℕ} 0 1 = cc in clash z
least body predict (suc f) [] (t ∷ w) k j e = let z : k ≡ j = cc in omega arith
least body predict (suc f) (tok a ∷ α) [] k j e = let z : k ≡ j = cc in omega arith
least body predict (suc f) (tok a ∷ α) (t ∷ w) k j e = least_tok k j (run body predict f α w (suc k)) (least body predict f α w (suc k) j) (eqb a t) e
least body predict (suc f) (act a ∷ α) w k j e = least body predict f α w k j e
least body predict (suc f) (nt n ∷ α) w k j e =
    least_nt (predict n (look w)) k j (λ p. run body predict f (body p ++ α) w k) (λ p. least body predict f (body p ++ α) w k j) e

module _ {S R : Type 0} (G : Grammar) (predict : ℕ → ℕ → ℕ) (does : ℕ → ℕ → S → Step S R) where
  -- the kinds alone
  pub kinds : {α : List Sym} {k : ℕ} {s s' : S} {w : List ℕ} → Reads S R G does α k s w s' → Gen G α w
  kinds done = plain.Gen.done
  kinds (eat r) = plain.Gen.eat (kinds r)
  kinds (acts e r) = plain.Gen.skip (kinds r)
  kinds (grow p l e r) = plain.Gen.grow p l e (kinds r)

  -- an end with actions beside one without
  abbrev pub Agree : End S R → Out → Type 0
  Agree (read s) o = o ≡ running.Out.good
  Agree (bad j) o = o ≡ running.Out.bad j
  Agree (stopped j r) o = (i : ℕ) → o ≡ running.Out.bad i → j ≤ i
  Agree spent o = o ≡ running.Out.spent

  agree_tok : (k : ℕ) (x : End S R) (o : Out) → Agree x o → (b : Bool) → Agree (cond b x (bad k)) (cond b o (running.Out.bad k))
  agree_tok k x o h true = h
  agree_tok k x o h false = refl

  agree_nt : (c k : ℕ) (f : ℕ → End S R) (g : ℕ → Out) → ((p : ℕ) → Agree (f p) (g p)) → Agree (choose_end c k f) (choose c k g)
  agree_nt zero k f g h = refl
  agree_nt (suc p) k f g h = h p

  agree_act : (k : ℕ) (x : Step S R) (f : S → End S R) (o : Out) → ((t : S) → Agree (f t) o) → ((i : ℕ) → o ≡ running.Out.bad i → k ≤ i) → Agree (go_on x k f) o
  agree_act k (go t) f o h l = h t
  agree_act k (stop r) f o h l = l

  pub agree : (f : ℕ) (α : List Sym) (w : List ℕ) (k : ℕ) (s : S) → Agree (runs G.body predict does f α w k s) (run G.body predict f α w k)
  unfolding runs run
  agree zero α w k s = refl
  agree (suc f) [] [] k s = refl
  agree (suc f) [] (t ∷ w) k s = refl
  agree (suc f) (tok a ∷ α) [] k s = refl
  agree (suc f) (tok a ∷ α) (t ∷ w) k s = agree_tok k (runs G.body predict does f α w (suc k) s) (run G.body predict f α w (suc k)) (agree f α w (suc k) s) (eqb a t)
  agree (suc f) (act a ∷ α) w k s =
      agree_act k (does a k s) (λ t. runs G.body predict does f α w k t) (run G.body predict f α w k) (λ t. agree f α w k t) (λ i. least G.body predict f α w k i)
  agree (suc f) (nt n ∷ α) w k s =
      agree_nt (predict n (look w)) k (λ p. runs G.body predict does f (G.body p ++ α) w k s) (λ p. run G.body predict f (G.body p ++ α) w k)
      (λ p. agree f (G.body p ++ α) w k s)

  module _ (T : Tables) (L : LL G predict T) where
    -- what the machine reads is a reading
    read_tok : (a t k : ℕ) (α : List Sym) (w : List ℕ) (s s' : S) (o : End S R) → (o ≡ read s' → Reads S R G does α (suc k) s w s') → (b : Bool) → eqb a t ≡ b
        → cond b o (bad k) ≡ read s' → Reads S R G does (tok a ∷ α) k s (t ∷ w) s'
    read_tok a t k α w s s' o ih true q e = subst (λ (x : ℕ). Reads S R G does (tok a ∷ α) k s (x ∷ w) s') (eqb-true a t q) (eat (ih e))
    read_tok a t k α w s s' o ih false q e = let z : ◌≡◌ {A = ℕ} 0 1 = cc in clash z

    read_act : (a k : ℕ) (α : List Sym) (w : List ℕ) (s s' : S) (f : S → End S R) → ((t : S) → f t ≡ read s' → Reads S R G does α k t w s') → (x : Step S R) → does a k s ≡ x
        → go_on x k f ≡ read s' → Reads S R G does (act a ∷ α) k s w s'
    read_act a k α w s s' f ih (go t) q e = acts q (ih t e)
    read_act a k α w s s' f ih (stop r) q e = let z : ◌≡◌ {A = ℕ} 0 1 = cc in clash z

    read_nt : (n k : ℕ) (α : List Sym) (w : List ℕ) (s s' : S) (f : ℕ → End S R) → ((p : ℕ) → f p ≡ read s' → Reads S R G does (G.body p ++ α) k s w s')
        → (c : ℕ) → predict n (look w) ≡ c → choose_end c k f ≡ read s' → Reads S R G does (nt n ∷ α) k s w s'
    read_nt n k α w s s' f ih zero q e = let z : ◌≡◌ {A = ℕ} 0 1 = cc in clash z
    read_nt n k α w s s' f ih (suc p) q e = let h = L.table n (look w) p q in grow p h.0 h.1 (ih p e)

    pub is_read : (f : ℕ) (α : List Sym) (w : List ℕ) (k : ℕ) (s s' : S) → runs G.body predict does f α w k s ≡ read s' → Reads S R G does α k s w s'
    unfolding runs
    is_read zero α w k s s' e = let z : ◌≡◌ {A = ℕ} 0 1 = cc in clash z
    is_read (suc f) [] [] k s s' e = let z : s ≡ s' = cc in subst (λ (x : S). Reads S R G does [] k s [] x) z done
    is_read (suc f) [] (t ∷ w) k s s' e = let z : ◌≡◌ {A = ℕ} 0 1 = cc in clash z
    is_read (suc f) (tok a ∷ α) [] k s s' e = let z : ◌≡◌ {A = ℕ} 0 1 = cc in clash z
    is_read (suc f) (tok a ∷ α) (t ∷ w) k s s' e =
        read_tok a t k α w s s' (runs G.body predict does f α w (suc k) s) (is_read f α w (suc k) s s') (eqb a t) refl e
    is_read (suc f) (act a ∷ α) w k s s' e =
        read_act a k α w s s' (λ t. runs G.body predict does f α w k t) (λ t. is_read f α w k t s') (does a k s) refl e
    is_read (suc f) (nt n ∷ α) w k s s' e =
        read_nt n k α w s s' (λ p. runs G.body predict does f (G.body p ++ α) w k s) (λ p. is_read f (G.body p ++ α) w k s s') (predict n (look w)) refl e

    -- a reading is what the machine reads, unless its steps run out
    pub found : (f : ℕ) {α : List Sym} {w : List ℕ} {k : ℕ} {s s' : S} → Reads S R G does α k s w s' → Fol G predict T L α
        → (runs G.body predict does f α w k s ≡ read s') ⊎ (runs G.body predict does f α w k s ≡ spent)
    unfolding runs
    found zero r φ = inr refl
    found (suc f) done φ = inl refl
    found (suc f) (eat {a = a} r) φ = rw (eq-eqb a a refl) (found f r φ)
    found (suc f) (acts e r) φ = rw e (found f r φ)
    found (suc f) (grow {n = n} {α = α} {w = w} p l e r) φ = rw (picked G predict T L p l n e α w φ (kinds r)) (found f r (fol_grow G predict T L p l n e α φ))

    -- one reading of one word under two names, that the words' first elements are the same by the equation alone
    one_at : {α : List Sym} {k : ℕ} {s a b : S} {w v : List ℕ} → Fol G predict T L α → w ≡ v → Reads S R G does α k s w a → Reads S R G does α k s v b → a ≡ b
    one_at φ q done done = refl
    one_at φ q (eat r) (eat t) = one_at φ (tail_eq q) r t
      where
        tail_eq : {x y : ℕ} {xs ys : List ℕ} → ◌≡◌ {A = List ℕ} (x ∷ xs) (y ∷ ys) → xs ≡ ys
        tail_eq h = cc
    one_at {b = b} {v = w'} φ q (acts {k = k} {α = α} {t = u} e r) (acts {t = v} d t) =
        let z : v ≡ u = cc in
        one_at {b = b} φ q r (subst (λ (x : S). Reads S R G does α k x w' b) z t)
    one_at {b = b} {w = w} {v = w'} φ q (grow {n = n} {k = k} {α = α} {s = s} p l e r) (grow p' l' e' t) =
        let c = picked G predict T L p l n e α w φ (kinds r) in
        let c' = picked G predict T L p' l' n e' α w' φ (kinds t) in
        let d : predict n (look w') ≡ suc p = rw (sym q) c in
        let z : p' ≡ p = inj (sym c' ∙ d) in
        one_at {b = b} (fol_grow G predict T L p l n e α φ) q r (subst (λ (x : ℕ). Reads S R G does (G.body x ++ α) k s w' b) z t)
      where
        inj : {x y : ℕ} → suc x ≡ suc y → x ≡ y
        inj h = omega arith

    -- one reading: the grammar gives a word one state at the end
    pub one : {α : List Sym} {k : ℕ} {s a b : S} {w : List ℕ} → Fol G predict T L α → Reads S R G does α k s w a → Reads S R G does α k s w b → a ≡ b
    one φ r t = one_at φ refl r t
