-- One name: it goes both ways and on, and what claims one claims the other. Assumes nothing.
use mathlib.Core.Path.{◌≡◌, refl, sym, ap, subst, ◌∙◌}
use mathlib.Core.Bool.{Bool, true, false, cond, not, ◌&&◌, ◌||◌, false≢true}
use mathlib.Core.List.{List, [], ◌∷◌}
use Prim.Native.Nat.{ℕ, zero, suc, ◌+◌}
use borrow.Author.Tests.{eq-eqb, eqb-true}
use lib.Dec.{eqb}
use Rattle.laws.proofs.Laws.{chosen, both_left, both_right}
use Rattle.same_names.specs.Spelling.{spelt, counts, by_kind}
use Rattle.places.specs.Kinds.{is_name}
use Rattle.records.specs.Records.{is_claim}
use Rattle.records.specs.Counting.{one_if}
use Rattle.names.specs.Language.{language_names, language_number}
use Rattle.meaning.proofs.Claimed.{claims_one, claims_class, claims_name_lem, claims_by_lem}
use Rattle.meaning.specs.Elements.{Element, Piece}
use Rattle.meaning.specs.Names.{own_name, claims, language, claims_in, is_doubled, same_as}
use Rattle.meaning.specs.Pieces.{class_of}
use Rattle.meaning.proofs.Claims.{claim_name}

-- two tests that give each other are one
pub both_ways : (a b : Bool) → (a ≡ true → b ≡ true) → (b ≡ true → a ≡ true) → a ≡ b
both_ways true b f g = sym (f refl)
both_ways false true f g = g refl
both_ways false false f g = refl

-- ---- spellings

module _ (basic : Bool) where
  spelt_self : (a : List ℕ) → spelt basic a a ≡ true
  unfolding spelt
  spelt_self [] = refl
  spelt_self (x ∷ a) = rw (eq-eqb (counts basic x) (counts basic x) refl) (spelt_self a)

  head : (x y : ℕ) (a b : List ℕ) → spelt basic (x ∷ a) (y ∷ b) ≡ true → counts basic x ≡ counts basic y
  unfolding spelt
  head x y a b h = eqb-true (counts basic x) (counts basic y) (both_left (eqb (counts basic x) (counts basic y)) (spelt basic a b) h)

  tail : (x y : ℕ) (a b : List ℕ) → spelt basic (x ∷ a) (y ∷ b) ≡ true → spelt basic a b ≡ true
  unfolding spelt
  tail x y a b h = both_right (eqb (counts basic x) (counts basic y)) (spelt basic a b) h

  joint : (x y : ℕ) (a b : List ℕ) → counts basic x ≡ counts basic y → spelt basic a b ≡ true → spelt basic (x ∷ a) (y ∷ b) ≡ true
  unfolding spelt
  joint x y a b e h = rw (eq-eqb (counts basic x) (counts basic y) e) h

  spelt_flips : (a b : List ℕ) → spelt basic a b ≡ true → spelt basic b a ≡ true
  unfolding spelt
  spelt_flips [] [] h = h
  spelt_flips [] (y ∷ b) h = h
  spelt_flips (x ∷ a) [] h = h
  spelt_flips (x ∷ a) (y ∷ b) h = joint y x b a (sym (head x y a b h)) (spelt_flips a b (tail x y a b h))

  spelt_on : (a b c : List ℕ) → spelt basic a b ≡ true → spelt basic b c ≡ true → spelt basic a c ≡ true
  unfolding spelt
  spelt_on [] [] c h g = g
  spelt_on [] (y ∷ b) c h g = absurd (false≢true h)
  spelt_on (x ∷ a) [] c h g = absurd (false≢true h)
  spelt_on (x ∷ a) (y ∷ b) [] h g = g
  spelt_on (x ∷ a) (y ∷ b) (z ∷ c) h g =
      joint x z a c (head x y a b h ∙ head y z b c g) (spelt_on a b c (tail x y a b h) (tail y z b c g))

  spelt_same : (a b c : List ℕ) → spelt basic a b ≡ true → spelt basic a c ≡ spelt basic b c
  spelt_same a b c h = both_ways (spelt basic a c) (spelt basic b c) (λ g. spelt_on b a c (spelt_flips a b h) g) (λ g. spelt_on a b c h g)

-- spelled as one, in elements of a kind
abbrev spell : ℕ → List ℕ → List ℕ → Bool
spell k a b = by_kind k (spelt true a b) (spelt false a b)

spell_self : (k : ℕ) (a : List ℕ) → (k ≡ 1 → spell k a a ≡ true) × (k ≡ 2 → spell k a a ≡ true)
spell_self k a = (λ e. rw e (spelt_self true a), λ e. rw e (spelt_self false a))

spell_flips : (k : ℕ) (a b : List ℕ) → spell k a b ≡ true → spell k b a ≡ true
spell_flips zero a b h = h
spell_flips (suc zero) a b h = spelt_flips true a b h
spell_flips (suc (suc zero)) a b h = spelt_flips false a b h
spell_flips (suc (suc (suc k))) a b h = h

spell_on : (k : ℕ) (a b c : List ℕ) → spell k a b ≡ true → spell k b c ≡ true → spell k a c ≡ true
spell_on zero a b c h g = h
spell_on (suc zero) a b c h g = spelt_on true a b c h g
spell_on (suc (suc zero)) a b c h g = spelt_on false a b c h g
spell_on (suc (suc (suc k))) a b c h g = h

-- ---- names

same_opens : (x y : Element) → same_as x y ≡ true → (x.kind ≡ y.kind) × (spell x.kind x.bytes y.bytes ≡ true)
unfolding same_as
same_opens x y h =
    let c = chosen (eqb x.kind y.kind) (spell x.kind x.bytes y.bytes) h in (eqb-true x.kind y.kind c.0, c.1)

same_closes : (x y : Element) → x.kind ≡ y.kind → spell x.kind x.bytes y.bytes ≡ true → same_as x y ≡ true
unfolding same_as
same_closes x y e h = rw (eq-eqb x.kind y.kind e) h

pub same_self : (x : Element) → is_name x.kind ≡ true → same_as x x ≡ true
same_self x h = same_closes x x refl (go (eqb x.kind 1) (eqb x.kind 2) refl refl h)
  where
    go : (a b : Bool) → eqb x.kind 1 ≡ a → eqb x.kind 2 ≡ b → (a || b) ≡ true → spell x.kind x.bytes x.bytes ≡ true
    go true b p q e = (spell_self x.kind x.bytes).0 (eqb-true x.kind 1 p)
    go false true p q e = (spell_self x.kind x.bytes).1 (eqb-true x.kind 2 q)
    go false false p q e = absurd (false≢true e)

pub same_flips : (x y : Element) → same_as x y ≡ true → same_as y x ≡ true
same_flips x y h =
    let o = same_opens x y h in
    same_closes y x (sym o.0) (subst (λ (k : ℕ). spell k y.bytes x.bytes ≡ true) o.0 (spell_flips x.kind x.bytes y.bytes o.1))

pub same_on : (x y z : Element) → same_as x y ≡ true → same_as y z ≡ true → same_as x z ≡ true
same_on x y z h g =
    let o = same_opens x y h in
    let q = same_opens y z g in
    same_closes x z (o.0 ∙ q.0)
    (spell_on x.kind x.bytes y.bytes z.bytes o.1 (subst (λ (k : ℕ). spell k y.bytes z.bytes ≡ true) (sym o.0) q.1))

pub same_right : (c x y : Element) → same_as x y ≡ true → same_as c x ≡ same_as c y
same_right c x y h = both_ways (same_as c x) (same_as c y) (λ g. same_on c x y g h) (λ g. same_on c y x g (same_flips x y h))

-- ---- the language's names

pub number_same : (p q : List ℕ → Bool) → ((w : List ℕ) → p w ≡ q w) → (k : ℕ) (ws : List (List ℕ)) → language_number p k ws ≡ language_number q k ws
number_same p q h k [] = refl
number_same p q h k (w ∷ ws) = rw (h w) (ap (λ (n : ℕ). cond (q w) k n) (number_same p q h (suc k) ws))

-- by kind and bytes
abbrev language_by : ℕ → List ℕ → ℕ
language_by k a = cond (eqb k 1) (language_number (spelt true a) 1 language_names) 0

language_by_lem : (k : ℕ) (a b : List ℕ) → spell k a b ≡ true → language_by k a ≡ language_by k b
language_by_lem zero a b h = absurd (false≢true h)
language_by_lem (suc zero) a b h = number_same (spelt true a) (spelt true b) (λ w. spelt_same true a b w h) 1 language_names
language_by_lem (suc (suc zero)) a b h = refl
language_by_lem (suc (suc (suc k))) a b h = absurd (false≢true h)

pub language_same : (x y : Element) → same_as x y ≡ true → language x ≡ language y
language_same x y h =
    let o = same_opens x y h in language_by_lem x.kind x.bytes y.bytes o.1 ∙ ap (λ (k : ℕ). language_by k y.bytes) o.0

-- ---- claims

pub claims_same : (x y : Element) (p : Piece) → same_as x y ≡ true → claims x p ≡ claims y p
claims_same x y p h = claims_one x p ∙ ap (λ (b : Bool). is_claim (class_of p) && b) (same_right (own_name p) x y h) ∙ sym (claims_one y p)

pub claims_in_same : (x y : Element) (ps : List Piece) → same_as x y ≡ true → claims_in x ps ≡ claims_in y ps
unfolding claims_in
claims_in_same x y [] h = ap (λ (n : ℕ). one_if (not (eqb n 0))) (language_same x y h)
claims_in_same x y (p ∷ ps) h = rw (claims_same x y p h) (ap (λ (n : ℕ). one_if (claims y p) + n) (claims_in_same x y ps h))

-- a piece claims its own name
pub own_claimed : (p : Piece) → is_claim (class_of p) ≡ true → claims (own_name p) p ≡ true
own_claimed p h = claims_by_lem (own_name p) p h (same_self (own_name p) (claim_name p h))

module _ (x : Element) (p : Piece) (h : claims x p ≡ true) where
  pub claimed_class : is_claim (class_of p) ≡ true
  claimed_class = claims_class x p h

  pub claimed_name : same_as (own_name p) x ≡ true
  claimed_name = claims_name_lem x p h

  pub claimed_count : (ps : List Piece) → claims_in x ps ≡ claims_in (own_name p) ps
  claimed_count ps = sym (claims_in_same (own_name p) x ps claimed_name)

  pub claimed_doubled : (ps : List Piece) → is_doubled ps x ≡ is_doubled ps (own_name p)
  claimed_doubled ps = rw (claimed_count ps)
