-- A piece claims one name or none: what follows of a claim. Assumes nothing.
use mathlib.Core.Path.{◌≡◌, refl, sym, ap, ◌∙◌}
use mathlib.Core.Bool.{Bool, true, false, cond, ◌&&◌, ◌||◌}
use mathlib.Core.List.{List, [], ◌∷◌}
use Prim.Native.Nat.{ℕ}
use Rattle.laws.proofs.Laws.{both_left, both_right}
use Rattle.records.specs.Records.{is_claim}
use Rattle.meaning.specs.Elements.{Element, Piece}
use Rattle.meaning.specs.Names.{own_name, is_one_of, claims, is_doubled, any_doubled, own_doubled, same_as}
use Rattle.meaning.specs.Pieces.{class_of}
use Rattle.meaning.proofs.Begun.{names_by_class}
use Rattle.meaning.specs.Together.{piece_at, claims_one_of, shares}

or_none : (a : Bool) → (a || false) ≡ a
or_none true = refl
or_none false = refl

pub claims_one : (x : Element) (p : Piece) → claims x p ≡ (is_claim (class_of p) && same_as (own_name p) x)
unfolding claims
claims_one x p = ap (λ (l : List Element). is_one_of x l) (names_by_class p) ∙ go (is_claim (class_of p))
  where
    go : (b : Bool) → is_one_of x (cond b (own_name p ∷ []) []) ≡ (b && same_as (own_name p) x)
    go true = or_none (same_as (own_name p) x)
    go false = refl

pub doubled_one : (all : List Piece) (p : Piece) → own_doubled all p ≡ (is_claim (class_of p) && is_doubled all (own_name p))
doubled_one all p = ap (λ (l : List Element). any_doubled all l) (names_by_class p) ∙ go (is_claim (class_of p))
  where
    go : (b : Bool) → any_doubled all (cond b (own_name p ∷ []) []) ≡ (b && is_doubled all (own_name p))
    go true = or_none (is_doubled all (own_name p))
    go false = refl

pub shares_one : (ps : List Piece) (i j : ℕ) → shares ps i j ≡ (is_claim (class_of (piece_at ps i)) && claims (own_name (piece_at ps i)) (piece_at ps j))
shares_one ps i j = ap (λ (l : List Element). claims_one_of l (piece_at ps j)) (names_by_class (piece_at ps i)) ∙ go (is_claim (class_of (piece_at ps i)))
  where
    go : (b : Bool) → claims_one_of (cond b (own_name (piece_at ps i) ∷ []) []) (piece_at ps j) ≡ (b && claims (own_name (piece_at ps i)) (piece_at ps j))
    go true = or_none (claims (own_name (piece_at ps i)) (piece_at ps j))
    go false = refl

-- a claim taken apart, and put together
module _ (x : Element) (p : Piece) where
  pub claims_class : claims x p ≡ true → is_claim (class_of p) ≡ true
  claims_class h = both_left (is_claim (class_of p)) (same_as (own_name p) x) (sym (claims_one x p) ∙ h)

  pub claims_name_lem : claims x p ≡ true → same_as (own_name p) x ≡ true
  claims_name_lem h = both_right (is_claim (class_of p)) (same_as (own_name p) x) (sym (claims_one x p) ∙ h)

  pub claims_by_lem : is_claim (class_of p) ≡ true → same_as (own_name p) x ≡ true → claims x p ≡ true
  claims_by_lem h k = claims_one x p ∙ rw h k
