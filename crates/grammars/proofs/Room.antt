-- How long the machine's stack gets. Two actions open and close something; cut the stack at each closing one that waits. A computed test
-- to each rule keeps every stretch below 64 symbols, so the stack has room in 64 for each that is open and 127 more. Assumes nothing.
use Prim.Native.Nat.{ℕ, suc, ◌+◌, ◌*◌, ◌-◌, ◌≤◌, max}
use mathlib.Core.Path.{◌≡◌, refl, subst}
use mathlib.Core.List.{List, [], ◌∷◌, ◌++◌}
use mathlib.Core.Bool.{Bool, true, false, ◌&&◌}
use native.Mathlib.Omega.{arith}
use lib.Dec.{T, eqb, leb, ltb, leb→le, eqb→eq}
use borrow.Author.Tests.{eqb-true, eq-eqb, ne_eqb}
use lib.ListN.{length}
use Rattle.laws.proofs.Laws.{clash}
use Rattle.grammars.specs.code.Grammar.{Sym, tok, nt, act}
use Rattle.grammars.proofs.Theory.{and_left, and_right}

abbrev pub pick_n : Bool → ℕ → ℕ → ℕ
pick_n true a b = a
pick_n false a b = b

abbrev pub pick_t : Bool → Type 0 → Type 0 → Type 0
pick_t true a b = a
pick_t false a b = b

abbrev pub pick_b : Bool → Bool → Bool → Bool
pick_b true a b = a
pick_b false a b = b

-- how often an action stands in a row of symbols
abbrev pub times : ℕ → List Sym → ℕ
times a [] = 0
times a (tok b ∷ α) = times a α
times a (act b ∷ α) = pick_n (eqb b a) (suc (times a α)) (times a α)
times a (nt n ∷ α) = times a α

pub times_length : (a : ℕ) (α : List Sym) → times a α ≤ length α
times_length a [] = omega arith
times_length a (tok b ∷ α) = omega (arith, times_length a α)
times_length a (act b ∷ α) = go (eqb b a) (times_length a α)
  where
    go : (t : Bool) → times a α ≤ length α → pick_n t (suc (times a α)) (times a α) ≤ suc (length α)
    go true h = omega arith
    go false h = omega arith
times_length a (nt n ∷ α) = omega (arith, times_length a α)

-- Of the action `up`, which opens one, and the action `down`, which closes one: with f open, α closes only what is open, and leaves e.
module _ (up down e : ℕ) where
  abbrev pub Nest : ℕ → List Sym → Type 0
  Nest f [] = f ≡ e
  Nest f (tok b ∷ α) = Nest f α
  Nest f (act b ∷ α) = pick_t (eqb b up) (Nest (suc f) α) (pick_t (eqb b down) ((1 ≤ f) × Nest (f - 1) α) (Nest f α))
  Nest f (nt n ∷ α) = Nest f α

  -- a rule's test: it leaves as many open as it found
  abbrev pub nested : ℕ → List Sym → Bool
  nested f [] = eqb f 0
  nested f (tok b ∷ β) = nested f β
  nested f (act b ∷ β) = pick_b (eqb b up) (nested (suc f) β) (pick_b (eqb b down) (ltb 0 f && nested (f - 1) β) (nested f β))
  nested f (nt n ∷ β) = nested f β

  pub nest_append : (g f : ℕ) (β α : List Sym) → T (nested g β) → Nest f α → Nest (g + f) (β ++ α)
  nest_append g f [] α t h = let z : f ≡ g + f = omega (arith, eqb→eq g 0 t) in subst (λ (x : ℕ). Nest x α) z h
  nest_append g f (tok b ∷ β) α t h = nest_append g f β α t h
  nest_append g f (act b ∷ β) α t h = go (eqb b up) (eqb b down) t (λ g u. nest_append g f β α u h)
    where
      go : (p q : Bool) → T (pick_b p (nested (suc g) β) (pick_b q (ltb 0 g && nested (g - 1) β) (nested g β))) → ((g : ℕ) → T (nested g β) → Nest (g + f) (β ++ α))
          → pick_t p (Nest (suc (g + f)) (β ++ α)) (pick_t q ((1 ≤ g + f) × Nest (g + f - 1) (β ++ α)) (Nest (g + f) (β ++ α)))
      go true q t ih = let z : suc g + f ≡ suc (g + f) = omega arith in subst (λ (x : ℕ). Nest x (β ++ α)) z (ih (suc g) t)
      go false true t ih =
          let l : 1 ≤ g = leb→le 1 g (and_left (ltb 0 g) (nested (g - 1) β) t) in
          let z : g - 1 + f ≡ g + f - 1 = omega arith in
          (omega arith, subst (λ (x : ℕ). Nest x (β ++ α)) z (ih (g - 1) (and_right (ltb 0 g) (nested (g - 1) β) t)))
      go false false t ih = ih g t
  nest_append g f (nt n ∷ β) α t h = nest_append g f β α t h

  pub nest_grow : (f : ℕ) (β α : List Sym) → T (nested 0 β) → Nest f α → Nest f (β ++ α)
  nest_grow f β α t h = let z : 0 + f ≡ f = omega arith in subst (λ (x : ℕ). Nest x (β ++ α)) z (nest_append 0 f β α t h)

  pub nest_count : (f : ℕ) (α : List Sym) → Nest f α → f + times up α ≤ e + times down α
  nest_count f [] h = omega arith
  nest_count f (tok b ∷ α) h = nest_count f α h
  nest_count f (act b ∷ α) h = go (eqb b up) (eqb b down) h (λ f. nest_count f α)
    where
      go : (p q : Bool) → pick_t p (Nest (suc f) α) (pick_t q ((1 ≤ f) × Nest (f - 1) α) (Nest f α)) → ((f : ℕ) → Nest f α → f + times up α ≤ e + times down α)
          → f + pick_n p (suc (times up α)) (times up α) ≤ e + pick_n q (suc (times down α)) (times down α)
      go true true h ih = omega (arith, ih (suc f) h)
      go true false h ih = omega (arith, ih (suc f) h)
      go false true h ih = omega (arith, h.0, ih (f - 1) h.1)
      go false false h ih = omega (arith, ih f h)
  nest_count f (nt n ∷ α) h = nest_count f α h

  -- as many close as open
  pub nest_waits : (f : ℕ) (α : List Sym) → (up ≡ down → ⊥) → Nest f α → e + times down α ≤ f + times up α
  nest_waits f [] d h = omega arith
  nest_waits f (tok b ∷ α) d h = nest_waits f α d h
  nest_waits f (act b ∷ α) d h = go (eqb b up) (eqb b down) refl refl h (λ f. nest_waits f α d)
    where
      go : (p q : Bool) → eqb b up ≡ p → eqb b down ≡ q → pick_t p (Nest (suc f) α) (pick_t q ((1 ≤ f) × Nest (f - 1) α) (Nest f α)) → ((f : ℕ) → Nest f α → e + times down α ≤ f + times up α)
          → e + pick_n q (suc (times down α)) (times down α) ≤ f + pick_n p (suc (times up α)) (times up α)
      go true true u v h ih = absurd (d (omega (arith, eqb-true b up u, eqb-true b down v)))
      go true false u v h ih = omega (arith, ih (suc f) h)
      go false true u v h ih = omega (arith, h.0, ih (f - 1) h.1)
      go false false u v h ih = omega (arith, ih f h)
  nest_waits f (nt n ∷ α) d h = nest_waits f α d h

  pub nest_down : (f a : ℕ) (α : List Sym) → (a ≡ up → ⊥) → a ≡ down → Nest f (act a ∷ α) → (1 ≤ f) × Nest (f - 1) α
  nest_down f a α d z h = go (eqb a up) (eqb a down) (ne_eqb a up d) (eq-eqb a down z) h
    where
      go : (p q : Bool) → p ≡ false → q ≡ true → pick_t p (Nest (suc f) α) (pick_t q ((1 ≤ f) × Nest (f - 1) α) (Nest f α)) → (1 ≤ f) × Nest (f - 1) α
      go true q e g h = let z : ◌≡◌ {A = ℕ} 0 1 = cc in clash z
      go false true e g h = h
      go false false e g h = let z : ◌≡◌ {A = ℕ} 0 1 = cc in clash z

  pub nest_other : (f a : ℕ) (α : List Sym) → (a ≡ up → ⊥) → (a ≡ down → ⊥) → Nest f (act a ∷ α) → Nest f α
  nest_other f a α d g h = go (eqb a up) (eqb a down) (ne_eqb a up d) (ne_eqb a down g) h
    where
      go : (p q : Bool) → p ≡ false → q ≡ false → pick_t p (Nest (suc f) α) (pick_t q ((1 ≤ f) × Nest (f - 1) α) (Nest f α)) → Nest f α
      go true q e g h = let z : ◌≡◌ {A = ℕ} 0 1 = cc in clash z
      go false true e g h = let z : ◌≡◌ {A = ℕ} 0 1 = cc in clash z
      go false false e g h = h

-- At most one opening action waits: it stands before every name.
module _ (up : ℕ) where
  abbrev pub Near : List Sym → Type 0
  Near [] = Unit {0}
  Near (tok b ∷ α) = Near α
  Near (act b ∷ α) = pick_t (eqb b up) (times up α ≡ 0) (Near α)
  Near (nt n ∷ α) = times up α ≡ 0

  abbrev pub near : List Sym → Bool
  near [] = true
  near (tok b ∷ β) = near β
  near (act b ∷ β) = pick_b (eqb b up) (eqb (times up β) 0) (near β)
  near (nt n ∷ β) = eqb (times up β) 0

  none_append : (β α : List Sym) → times up α ≡ 0 → times up β ≡ 0 → times up (β ++ α) ≡ 0
  none_append [] α a b = a
  none_append (tok c ∷ β) α a b = none_append β α a b
  none_append (act c ∷ β) α a b = go (eqb c up) b (none_append β α a)
    where
      go : (p : Bool) → pick_n p (suc (times up β)) (times up β) ≡ 0 → (times up β ≡ 0 → times up (β ++ α) ≡ 0) → pick_n p (suc (times up (β ++ α))) (times up (β ++ α)) ≡ 0
      go true b ih = absurd (omega arith)
      go false b ih = ih b
  none_append (nt n ∷ β) α a b = none_append β α a b

  pub none_near : (α : List Sym) → times up α ≡ 0 → Near α
  none_near [] h = tt
  none_near (tok b ∷ α) h = none_near α h
  none_near (act b ∷ α) h = go (eqb b up) h (none_near α)
    where
      go : (p : Bool) → pick_n p (suc (times up α)) (times up α) ≡ 0 → (times up α ≡ 0 → Near α) → pick_t p (times up α ≡ 0) (Near α)
      go true h ih = absurd (omega arith)
      go false h ih = ih h
  none_near (nt n ∷ α) h = h

  pub near_append : (β α : List Sym) → T (near β) → times up α ≡ 0 → Near (β ++ α)
  near_append [] α t a = none_near α a
  near_append (tok b ∷ β) α t a = near_append β α t a
  near_append (act b ∷ β) α t a = go (eqb b up) t (λ u. near_append β α u a)
    where
      go : (p : Bool) → T (pick_b p (eqb (times up β) 0) (near β)) → (T (near β) → Near (β ++ α)) → pick_t p (times up (β ++ α) ≡ 0) (Near (β ++ α))
      go true t ih = none_append β α a (eqb→eq (times up β) 0 t)
      go false t ih = ih t
  near_append (nt n ∷ β) α t a = none_append β α a (eqb→eq (times up β) 0 t)

  pub near_act : (a : ℕ) (α : List Sym) → Near (act a ∷ α) → Near α
  near_act a α h = go (eqb a up) h
    where
      go : (p : Bool) → pick_t p (times up α ≡ 0) (Near α) → Near α
      go true h = none_near α h
      go false h = h

  pub near_one : (α : List Sym) → Near α → times up α ≤ 1
  near_one [] h = omega arith
  near_one (tok b ∷ α) h = near_one α h
  near_one (act b ∷ α) h = go (eqb b up) h (near_one α)
    where
      go : (p : Bool) → pick_t p (times up α ≡ 0) (Near α) → (Near α → times up α ≤ 1) → pick_n p (suc (times up α)) (times up α) ≤ 1
      go true h ih = omega arith
      go false h ih = ih h
  near_one (nt n ∷ α) h = omega arith

module _ (down : ℕ) (h : ℕ → ℕ) (pos : (n : ℕ) → 1 ≤ h n) where
  -- up to the first closing action: how many symbols, and how high the stack gets while they are read, if a name n takes h n
  abbrev pub sl : List Sym → ℕ
  sl [] = 0
  sl (tok a ∷ α) = suc (sl α)
  sl (act a ∷ α) = pick_n (eqb a down) 0 (suc (sl α))
  sl (nt n ∷ α) = suc (sl α)

  abbrev pub high : List Sym → ℕ
  high [] = 0
  high (tok a ∷ α) = max (1 + sl α) (high α)
  high (act a ∷ α) = pick_n (eqb a down) 0 (max (1 + sl α) (high α))
  high (nt n ∷ α) = max (h n + sl α) (high α)

  -- what stands after each closing action gets at most 63 high
  abbrev pub Low : List Sym → Type 0
  Low [] = Unit {0}
  Low (tok a ∷ α) = Low α
  Low (act a ∷ α) = pick_t (eqb a down) ((high α ≤ 63) × Low α) (Low α)
  Low (nt n ∷ α) = Low α

  sl_high : (α : List Sym) → sl α ≤ high α
  sl_high [] = omega arith
  sl_high (act a ∷ α) = go (eqb a down)
    where
      go : (b : Bool) → pick_n b 0 (suc (sl α)) ≤ pick_n b 0 (max (1 + sl α) (high α))
      go true = omega arith
      go false = omega arith
  sl_high (tok a ∷ α) = omega arith
  sl_high (nt n ∷ α) = omega (arith, pos n)

  room : (α : List Sym) → Low α → length α ≤ sl α + 64 * times down α
  room [] l = omega arith
  room (act a ∷ α) l = go (eqb a down) l (room α)
    where
      go : (b : Bool) → pick_t b ((high α ≤ 63) × Low α) (Low α) → (Low α → length α ≤ sl α + 64 * times down α)
          → suc (length α) ≤ pick_n b 0 (suc (sl α)) + 64 * pick_n b (suc (times down α)) (times down α)
      go true l ih = omega (arith, ih l.1, sl_high α, l.0)
      go false l ih = omega (arith, ih l)
  room (tok a ∷ α) l = omega (arith, room α l)
  room (nt n ∷ α) l = omega (arith, room α l)

  abbrev has : List Sym → Bool
  has [] = false
  has (act a ∷ α) = pick_b (eqb a down) true (has α)
  has (tok a ∷ α) = has α
  has (nt n ∷ α) = has α

  sl_has : (β α : List Sym) → has β ≡ true → sl (β ++ α) ≡ sl β
  sl_has [] α e = let z : ◌≡◌ {A = ℕ} 0 1 = cc in clash z
  sl_has (act a ∷ β) α e = go (eqb a down) e (sl_has β α)
    where
      go : (b : Bool) → pick_b b true (has β) ≡ true → (has β ≡ true → sl (β ++ α) ≡ sl β) → pick_n b 0 (suc (sl (β ++ α))) ≡ pick_n b 0 (suc (sl β))
      go true e ih = refl
      go false e ih = omega (arith, ih e)
  sl_has (tok a ∷ β) α e = omega (arith, sl_has β α e)
  sl_has (nt n ∷ β) α e = omega (arith, sl_has β α e)

  high_has : (β α : List Sym) → has β ≡ true → high (β ++ α) ≡ high β
  high_has [] α e = let z : ◌≡◌ {A = ℕ} 0 1 = cc in clash z
  high_has (act a ∷ β) α e = go (eqb a down) e (high_has β α) (sl_has β α)
    where
      go : (b : Bool) → pick_b b true (has β) ≡ true → (has β ≡ true → high (β ++ α) ≡ high β) → (has β ≡ true → sl (β ++ α) ≡ sl β)
          → pick_n b 0 (max (1 + sl (β ++ α)) (high (β ++ α))) ≡ pick_n b 0 (max (1 + sl β) (high β))
      go true e ih is = refl
      go false e ih is = omega (arith, ih e, is e)
  high_has (tok a ∷ β) α e = omega (arith, high_has β α e, sl_has β α e)
  high_has (nt n ∷ β) α e = omega (arith, high_has β α e, sl_has β α e)

  sl_none : (β α : List Sym) → has β ≡ false → sl (β ++ α) ≡ sl β + sl α
  sl_none [] α e = omega arith
  sl_none (act a ∷ β) α e = go (eqb a down) e (sl_none β α)
    where
      go : (b : Bool) → pick_b b true (has β) ≡ false → (has β ≡ false → sl (β ++ α) ≡ sl β + sl α) → pick_n b 0 (suc (sl (β ++ α))) ≡ pick_n b 0 (suc (sl β)) + sl α
      go true e ih = let z : ◌≡◌ {A = ℕ} 0 1 = cc in clash z
      go false e ih = omega (arith, ih e)
  sl_none (tok a ∷ β) α e = omega (arith, sl_none β α e)
  sl_none (nt n ∷ β) α e = omega (arith, sl_none β α e)

  high_none : (β α : List Sym) → has β ≡ false → high (β ++ α) ≤ max (high β + sl α) (high α)
  high_none [] α e = omega arith
  high_none (act a ∷ β) α e = go (eqb a down) e (high_none β α) (sl_none β α)
    where
      go : (b : Bool) → pick_b b true (has β) ≡ false → (has β ≡ false → high (β ++ α) ≤ max (high β + sl α) (high α)) → (has β ≡ false → sl (β ++ α) ≡ sl β + sl α)
          → pick_n b 0 (max (1 + sl (β ++ α)) (high (β ++ α))) ≤ max (pick_n b 0 (max (1 + sl β) (high β)) + sl α) (high α)
      go true e ih is = omega arith
      go false e ih is = omega (arith, ih e, is e)
  high_none (tok a ∷ β) α e = omega (arith, high_none β α e, sl_none β α e)
  high_none (nt n ∷ β) α e = omega (arith, high_none β α e, sl_none β α e)

  -- a rule's test: up to its first closing action, and after each, it gets 63 high at most; after the last no higher than its name takes
  abbrev pub part : ℕ → List Sym → Bool
  part n β = pick_b (has β) (leb (high β) 63) (leb (high β) (h n))

  abbrev pub parts : ℕ → List Sym → Bool
  parts n [] = true
  parts n (act a ∷ β) = pick_b (eqb a down) (part n β && parts n β) (parts n β)
  parts n (tok a ∷ β) = parts n β
  parts n (nt m ∷ β) = parts n β

  part_ok : (n : ℕ) (β α : List Sym) → T (part n β) → h n + sl α ≤ 63 → high α ≤ 63 → high (β ++ α) ≤ 63
  part_ok n β α t l g = go (has β) refl t
    where
      go : (b : Bool) → has β ≡ b → T (pick_b b (leb (high β) 63) (leb (high β) (h n))) → high (β ++ α) ≤ 63
      go true e t = omega (arith, high_has β α e, leb→le (high β) 63 t)
      go false e t = omega (arith, high_none β α e, leb→le (high β) (h n) t)

  parts_ok : (n : ℕ) (β α : List Sym) → T (parts n β) → h n + sl α ≤ 63 → high α ≤ 63 → Low α → Low (β ++ α)
  parts_ok n [] α t l g k = k
  parts_ok n (act a ∷ β) α t l g k = go (eqb a down) t (λ u. parts_ok n β α u l g k)
    where
      go : (b : Bool) → T (pick_b b (part n β && parts n β) (parts n β)) → (T (parts n β) → Low (β ++ α)) → pick_t b ((high (β ++ α) ≤ 63) × Low (β ++ α)) (Low (β ++ α))
      go true t ih = (part_ok n β α (and_left (part n β) (parts n β) t) l g, ih (and_right (part n β) (parts n β) t))
      go false t ih = ih t
  parts_ok n (tok a ∷ β) α t l g k = parts_ok n β α t l g k
  parts_ok n (nt m ∷ β) α t l g k = parts_ok n β α t l g k

  -- every stretch of the stack is low: by a rule that passes the test, past an element, past an action
  pub record Lies (α : List Sym) : Type 0 where
    pub now_low : high α ≤ 63
    pub then_low : Low α

  pub lies_grow : (n : ℕ) (β α : List Sym) → T (part n β) → T (parts n β) → Lies (nt n ∷ α) → Lies (β ++ α)
  lies_grow n β α t u l =
      let g : high (nt n ∷ α) ≤ 63 = l.now_low in
      record { now_low = part_ok n β α t (omega arith) (omega arith); then_low = parts_ok n β α u (omega arith) (omega arith) l.then_low }

  pub lies_eat : (a : ℕ) (α : List Sym) → Lies (tok a ∷ α) → Lies α
  lies_eat a α l = let g : high (tok a ∷ α) ≤ 63 = l.now_low in record { now_low = omega arith; then_low = l.then_low }

  pub lies_act : (a : ℕ) (α : List Sym) → Lies (act a ∷ α) → Lies α
  lies_act a α l = go (eqb a down) l.now_low l.then_low
    where
      go : (b : Bool) → pick_n b 0 (max (1 + sl α) (high α)) ≤ 63 → pick_t b ((high α ≤ 63) × Low α) (Low α) → Lies α
      go true g k = record { now_low = k.0; then_low = k.1 }
      go false g k = record { now_low = omega arith; then_low = k }

  pub lies_length : (α : List Sym) → Lies α → length α ≤ 63 + 64 * times down α
  lies_length α l = omega (arith, room α l.then_low, sl_high α, l.now_low)
