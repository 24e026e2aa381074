-- The promises of a lookup, proved. Assumes nothing.
use mathlib.Core.Path.{◌≡◌, refl, sym, ap, subst, ◌∙◌}
use mathlib.Core.Logic.{◌⊎◌, inl, inr}
use mathlib.Core.Bool.{Bool, true, false, cond, ◌&&◌}
use mathlib.Core.List.{List}
use Prim.Native.Nat.{ℕ, zero, suc, ◌+◌, ◌*◌, ◌≤◌, ◌<◌}
use native.Mathlib.Nat.{eq-or-lt_of_le}
use native.Mathlib.Omega.{arith}
use borrow.Author.Tests.{le-leb, leb-true, ltb-true, ltb-false}
use lib.Dec.{ltb}
use lib.ListN.{length, take, drop, get_or}
use Rattle.std.specs.Prelude.{Option, Some, None}
use Rattle.laws.proofs.Laws.{clash}
use Rattle.places.specs.Places.{rows_in, cell_at, within, row_words}
use Rattle.same_names.specs.Spelling.{spelt, by_kind}
use Rattle.same_names.specs.Alike.{spelled_as}
use Rattle.records.specs.Records.{is_claim}
use Rattle.lookup.specs.Lookup.{is_named, claims_name, found_from, found_of}
use Rattle.lookup.specs.Finds.{records_held, class_in, name_element, kind_in, first_byte, size_in, InsideText, Spells, Claims, Finds}
use Rattle.lookup.specs.Promises.{OneAnswer, OutsideClaimsNothing, ByNameElement, FoundExactly}

-- ---- an element is the name, by its row

-- a row whose kind isn't 0 is there
row_there : (elements : List ℕ) (e k : ℕ) → kind_in elements e ≡ suc k → e < rows_in elements
unfolding cell_at
row_there elements e k h = go (ltb e (rows_in elements)) refl h
  where
    go : (b : Bool) → ltb e (rows_in elements) ≡ b → cond b (get_or elements (row_words * e + 0) 0) 0 ≡ suc k → e < rows_in elements
    go true q z = ltb-true e (rows_in elements) q
    go false q z = absurd (omega arith)

module _ (text elements : List ℕ) (e : ℕ) (name : List ℕ) where
  spelled_true : (basic : Bool) → spelled_as basic text elements e name ≡ true
      → (first_byte elements e + size_in elements e ≤ length text) × (spelt basic (take (size_in elements e) (drop (first_byte elements e) text)) name ≡ true)
  unfolding spelled_as
  spelled_true basic h = go (within text (first_byte elements e) (size_in elements e)) refl h
    where
      go : (b : Bool) → within text (first_byte elements e) (size_in elements e) ≡ b
          → cond b (spelt basic (take (size_in elements e) (drop (first_byte elements e) text)) name) false ≡ true
          → (first_byte elements e + size_in elements e ≤ length text) × (spelt basic (take (size_in elements e) (drop (first_byte elements e) text)) name ≡ true)
      go true q z = (leb-true (first_byte elements e + size_in elements e) (length text) q, z)
      go false q z = let o : ◌≡◌ {A = ℕ} 0 1 = cc in clash o

  named_so : is_named text elements e name ≡ true → InsideText text elements e × Spells text elements e name
  unfolding is_named
  named_so h = go (kind_in elements e) refl h
    where
      go : (k : ℕ) → kind_in elements e ≡ k → by_kind k (spelled_as true text elements e name) (spelled_as false text elements e name) ≡ true → InsideText text elements e × Spells text elements e name
      go zero q z = let o : ◌≡◌ {A = ℕ} 0 1 = cc in clash o
      go (suc zero) q z = let s = spelled_true true z in ((row_there elements e 0 q, omega arith), inl (q, s.1))
      go (suc (suc zero)) q z = let s = spelled_true false z in ((row_there elements e 1 q, omega arith), inr (q, s.1))
      go (suc (suc (suc k))) q z = let o : ◌≡◌ {A = ℕ} 0 1 = cc in clash o

  so_named : InsideText text elements e → Spells text elements e name → is_named text elements e name ≡ true
  unfolding is_named spelled_as
  so_named i (inl (k, s)) = rw (k, le-leb (first_byte elements e + size_in elements e) (length text) i.1) s
  so_named i (inr (k, s)) = rw (k, le-leb (first_byte elements e + size_in elements e) (length text) i.1) s

module _ (text elements name items : List ℕ) where
  -- ---- the test on a record is what is said of it

  abbrev test : ℕ → Bool
  test = claims_name text elements name items

  pub claims_at : (i : ℕ) → test i ≡ true → Claims text elements name items i
  unfolding claims_name Claims
  claims_at i h = go (is_claim (class_in items i)) (is_named text elements (name_element items i) name) refl refl h
    where
      go : (b c : Bool) → is_claim (class_in items i) ≡ b → is_named text elements (name_element items i) name ≡ c → (b && c) ≡ true
          → (is_claim (class_in items i) ≡ true) × InsideText text elements (name_element items i) × Spells text elements (name_element items i) name
      go true c p q z = let s = named_so text elements (name_element items i) name (q ∙ z) in (p, s.0, s.1)
      go false c p q z = let o : ◌≡◌ {A = ℕ} 0 1 = cc in clash o

  so_claims : (i : ℕ) → Claims text elements name items i → test i ≡ true
  unfolding claims_name Claims
  so_claims i (c, p, s) = rw (c, so_named text elements (name_element items i) name p s)

  pub claims_not_at : (i : ℕ) → test i ≡ false → Claims text elements name items i → ⊥
  claims_not_at i e c = let z = so_claims i c in let o : ◌≡◌ {A = ℕ} 0 1 = cc in clash o

  -- ---- the first of them

  abbrev Ahead : ℕ → ℕ → Option ℕ → Type 0
  Ahead i m (Some k) = (i ≤ k) × (k < i + m) × Claims text elements name items k × ((j : ℕ) → i ≤ j → j < k → Claims text elements name items j → ⊥)
  Ahead i m None = (j : ℕ) → i ≤ j → j < i + m → Claims text elements name items j → ⊥

  not_here : (i j : ℕ) → test i ≡ false → ((n : ℕ) → suc i ≤ n → n ≡ j → Claims text elements name items n → ⊥) → i ≤ j → Claims text elements name items j → ⊥
  not_here i j e g l c = go (eq-or-lt_of_le l)
    where
      go : (i ≡ j) ⊎ (i < j) → ⊥
      go (inl q) = claims_not_at i e (subst (Claims text elements name items) (sym q) c)
      go (inr q) = g j q refl c

  further : (i m : ℕ) (f : Option ℕ) → test i ≡ false → Ahead (suc i) m f → Ahead i (suc m) f
  further i m (Some k) e (a, b, c, n) = (omega arith, omega arith, c, λ j l h d. not_here i j e (λ x u v w. n x u (omega arith) w) l d)
  further i m None e n = λ j l h d. not_here i j e (λ x u v w. n x u (omega arith) w) l d

  ahead : (i m : ℕ) → Ahead i m (found_from test i m)
  unfolding found_from
  ahead i zero = λ j l h c. omega arith
  ahead i (suc m) = go (test i) refl (ahead (suc i) m)
    where
      go : (b : Bool) → test i ≡ b → Ahead (suc i) m (found_from test (suc i) m) → Ahead i (suc m) (elim b [ true ↦ Some i | false ↦ found_from test (suc i) m ])
      go true e r = (omega arith, omega arith, claims_at i e, λ j l h c. omega arith)
      go false e r = further i m (found_from test (suc i) m) e r

  ahead_finds : (f : Option ℕ) → Ahead 0 (records_held items) f → Finds text elements name items f
  unfolding Finds
  ahead_finds (Some k) (a, b, c, n) = (omega arith, c, λ j l. n j (omega arith) (omega arith))
  ahead_finds None n = λ j l. n j (omega arith) (omega arith)

  pub finds_found : Finds text elements name items (found_of text elements name items)
  unfolding found_of
  finds_found = ahead_finds (found_from test 0 (records_held items)) (ahead 0 (records_held items))

pub one_answer : OneAnswer
unfolding Finds
one_answer text elements name items (Some k) (Some l) (p, c, n) (q, d, m) = go (ltb k l) (ltb l k) refl refl
  where
    go : (a b : Bool) → ltb k l ≡ a → ltb l k ≡ b → Some k ≡ Some l
    go true b u v = absurd (m k (ltb-true k l u) c)
    go false true u v = absurd (n l (ltb-true l k v) d)
    go false false u v = let e : k ≡ l = omega (arith, ltb-false k l u, ltb-false l k v) in ap Some e
one_answer text elements name items (Some k) None (p, c, n) m = absurd (m k p c)
one_answer text elements name items None (Some l) n (q, d, m) = absurd (n l q d)
one_answer text elements name items None None n m = refl

pub outside_claims_nothing : OutsideClaimsNothing
unfolding Claims
outside_claims_nothing text elements name items i (inl o) (c, (p, q), s) = omega arith
outside_claims_nothing text elements name items i (inr o) (c, (p, q), s) = omega arith

pub found_exactly : FoundExactly
found_exactly text elements name items x = (
  (λ f. one_answer text elements name items x (found_of text elements name items) f (finds_found text elements name items)),
  λ e. subst (Finds text elements name items) (sym e) (finds_found text elements name items),
)

-- a record that another agrees with in class and name element claims what that one claims
claims_same : (text elements name items others : List ℕ) (i : ℕ) → class_in items i ≡ class_in others i → name_element items i ≡ name_element others i
    → Claims text elements name items i → Claims text elements name others i
unfolding Claims
claims_same text elements name items others i p q c = rw (← p, ← q) c

pub by_name_element : ByNameElement
unfolding Finds
by_name_element text elements name items others e h (Some k) (l, c, n) = (
  omega arith,
  claims_same text elements name items others k (h k).0 (h k).1 c,
  λ j u d. n j u (claims_same text elements name others items j (sym (h j).0) (sym (h j).1) d),
)
by_name_element text elements name items others e h None n =
    λ j u d. n j (omega arith) (claims_same text elements name others items j (sym (h j).0) (sym (h j).1) d)
