-- Bytes that count the same in a name: the same lower case, or the same. Assumes nothing.
use Prim.Native.Nat.{ℕ, zero, suc}
use mathlib.Core.Path.{◌≡◌, refl, ap₂, subst}
use mathlib.Core.Logic.{◌⊎◌, inl, inr}
use mathlib.Core.Bool.{Bool, true, false, false≢true}
use mathlib.Core.List.{List, [], ◌∷◌}
use borrow.Author.Tests.{eq-eqb, eqb-true}
use lib.Dec.{eqb}
use Rattle.laws.proofs.Laws.{clash, both_left, both_right}
use Rattle.classes.specs.Bytes.{lower}
use Rattle.same_names.specs.Spelling.{spelt, by_kind}
use Rattle.meaning.specs.Elements.{Element}
use Rattle.claims.specs.Claims.{lowered, IsCalled}

pub spelt_lowered : (a b : List ℕ) → spelt true a b ≡ true → lowered a ≡ lowered b
unfolding spelt lowered
spelt_lowered [] [] h = refl
spelt_lowered [] (y ∷ b) h = absurd (false≢true h)
spelt_lowered (x ∷ a) [] h = absurd (false≢true h)
spelt_lowered (x ∷ a) (y ∷ b) h =
    ap₂ (λ (c : ℕ) (l : List ℕ). c ∷ l) (eqb-true (lower x) (lower y) (both_left (eqb (lower x) (lower y)) (spelt true a b) h))
    (spelt_lowered a b (both_right (eqb (lower x) (lower y)) (spelt true a b) h))

pub lowered_spelt : (a b : List ℕ) → lowered a ≡ lowered b → spelt true a b ≡ true
unfolding spelt lowered
lowered_spelt [] [] h = refl
lowered_spelt [] (y ∷ b) h = let z : ◌≡◌ {A = ℕ} 0 1 = cc in clash z
lowered_spelt (x ∷ a) [] h = let z : ◌≡◌ {A = ℕ} 0 1 = cc in clash z
lowered_spelt (x ∷ a) (y ∷ b) h =
    let z : lower x ≡ lower y = cc in
    let w : lowered a ≡ lowered b = cc in
    rw (eq-eqb (lower x) (lower y) z) (lowered_spelt a b w)

pub spelt_same : (a b : List ℕ) → spelt false a b ≡ true → a ≡ b
unfolding spelt
spelt_same [] [] h = refl
spelt_same [] (y ∷ b) h = absurd (false≢true h)
spelt_same (x ∷ a) [] h = absurd (false≢true h)
spelt_same (x ∷ a) (y ∷ b) h =
    ap₂ (λ (c : ℕ) (l : List ℕ). c ∷ l) (eqb-true x y (both_left (eqb x y) (spelt false a b) h)) (spelt_same a b (both_right (eqb x y) (spelt false a b) h))

self_spelt : (a : List ℕ) → spelt false a a ≡ true
unfolding spelt
self_spelt [] = refl
self_spelt (x ∷ a) = rw (eq-eqb x x refl) (self_spelt a)

pub same_spelt : (a b : List ℕ) → a ≡ b → spelt false a b ≡ true
same_spelt a b e = subst (λ (l : List ℕ). spelt false a l ≡ true) e (self_spelt a)

-- an element is the name, as a test
abbrev pub is_spelt : List ℕ → Element → Bool
is_spelt name x = by_kind x.kind (spelt true x.bytes name) (spelt false x.bytes name)

by_kind_lem : (k : ℕ) (a b : Bool) → by_kind k a b ≡ true → ((k ≡ 1) × (a ≡ true)) ⊎ ((k ≡ 2) × (b ≡ true))
by_kind_lem zero a b h = absurd (false≢true h)
by_kind_lem (suc zero) a b h = inl (refl, h)
by_kind_lem (suc (suc zero)) a b h = inr (refl, h)
by_kind_lem (suc (suc (suc k))) a b h = absurd (false≢true h)

pub is_spelt_lem : (name : List ℕ) (x : Element) → is_spelt name x ≡ true → IsCalled name x
is_spelt_lem name x h = go (by_kind_lem x.kind (spelt true x.bytes name) (spelt false x.bytes name) h)
  where
    go : ((x.kind ≡ 1) × (spelt true x.bytes name ≡ true)) ⊎ ((x.kind ≡ 2) × (spelt false x.bytes name ≡ true)) → IsCalled name x
    go (inl k) = inl (k.0, spelt_lowered x.bytes name k.1)
    go (inr k) = inr (k.0, spelt_same x.bytes name k.1)

pub spells_is : (name : List ℕ) (x : Element) → IsCalled name x → is_spelt name x ≡ true
spells_is name x (inl k) = rw k.0 (lowered_spelt x.bytes name k.1)
spells_is name x (inr k) = rw k.0 (same_spelt x.bytes name k.1)
