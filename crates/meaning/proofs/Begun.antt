-- A piece's class says that it claims a name exactly when it begins with constant or subtype and then a name. Assumes nothing.
use Prim.Native.Nat.{ℕ, zero, suc}
use mathlib.Core.Path.{◌≡◌, refl, sym, ap, ◌∙◌}
use mathlib.Core.Bool.{Bool, true, false, cond, ◌&&◌, ◌||◌, false≢true}
use mathlib.Core.List.{List, [], ◌∷◌}
use borrow.Author.Tests.{eqb-true}
use lib.Dec.{eqb}
use lib.ListN.{length, get_or}
use Rattle.spelled.proofs.Spelling.{spelling}
use Rattle.places.specs.Kinds.{is_name}
use Rattle.pieces.specs.Kinds.{class_at, is_heading, behind_word, has_name, ends_at, is_closing, claim_class, piece_class}
use Rattle.pieces.specs.declared.PieceClass.{PieceClass}
use Rattle.records.specs.Records.{is_claim}
use Rattle.meaning.specs.Elements.{Piece, at}
use Rattle.meaning.specs.Pieces.{kinds_in_piece, class_of}
use Rattle.meaning.specs.Names.{own_name, begins_claim, names_claimed}

pub kinds_at_lem : (p : Piece) (i : ℕ) → get_or (kinds_in_piece p) i 0 ≡ (at p i).kind
unfolding kinds_in_piece at
kinds_at_lem [] i = refl
kinds_at_lem (x ∷ p) zero = refl
kinds_at_lem (x ∷ p) (suc i) = kinds_at_lem p i

abbrev pub marked : Bool → Bool → Bool → Bool → Bool → ℕ → PieceClass
marked heading closing named constant subtype place =
    cond heading (class_at 1 1) (cond closing (class_at 2 place) (cond named (cond constant (class_at 3 1) (cond subtype (class_at 4 1) (class_at 5 0))) (class_at 5 0)))

never : (b : Bool) → (b && false) ≡ false
never true = refl
never false = refl

pub no_heading : (ks : List ℕ) → eqb (get_or ks 0 0) 98 ≡ false → is_heading ks ≡ false
unfolding is_heading
no_heading ks e = rw e (never (eqb (length ks) 3))

pub no_closing : (ks : List ℕ) → eqb (get_or ks 0 0) 61 ≡ false → is_closing ks ≡ false
unfolding is_closing ends_at
no_closing ks e = rw e

-- which of the two words the piece begins with, and that it is then no heading and no closing
module _ (ks : List ℕ) (place : ℕ) where
  abbrev Claims : Bool → Bool → Bool → Bool → Type 0
  Claims a b h c = is_claim (marked h c (is_name (get_or ks 1 0)) a b place).class ≡ ((a || b) && is_name (get_or ks 1 0))

  begun : (a b h c : Bool) → (h ≡ false) → (c ≡ false) → (a || b) ≡ true → Claims a b h c
  begun a b true c e f g = absurd (false≢true (sym e))
  begun a b false true e f g = absurd (false≢true (sym f))
  begun true b false false e f g = go (is_name (get_or ks 1 0))
    where
      go : (n : Bool) → is_claim (marked false false n true b place).class ≡ n
      go true = refl
      go false = refl
  begun false true false false e f g = go (is_name (get_or ks 1 0))
    where
      go : (n : Bool) → is_claim (marked false false n false true place).class ≡ n
      go true = refl
      go false = refl
  begun false false false false e f g = absurd (false≢true g)

  other : (h c : Bool) → Claims false false h c
  other true c = refl
  other false true = refl
  other false false = go (is_name (get_or ks 1 0))
    where
      go : (n : Bool) → is_claim (marked false false n false false place).class ≡ false
      go true = refl
      go false = refl

  first_is_lem : (k : ℕ) → get_or ks 0 0 ≡ k → eqb k 98 ≡ false → eqb k 61 ≡ false → (is_heading ks ≡ false) × (is_closing ks ≡ false)
  first_is_lem k e f g = (no_heading ks (ap (λ (j : ℕ). eqb j 98) e ∙ f), no_closing ks (ap (λ (j : ℕ). eqb j 61) e ∙ g))

  pub claims_by_words : Claims (eqb (get_or ks 0 0) 53) (eqb (get_or ks 0 0) 129) (is_heading ks) (is_closing ks)
  claims_by_words = go (eqb (get_or ks 0 0) 53) (eqb (get_or ks 0 0) 129) refl refl
    where
      go : (a b : Bool) → eqb (get_or ks 0 0) 53 ≡ a → eqb (get_or ks 0 0) 129 ≡ b → Claims a b (is_heading ks) (is_closing ks)
      go true b e f = let i = first_is_lem 53 (eqb-true (get_or ks 0 0) 53 e) refl refl in begun true b (is_heading ks) (is_closing ks) i.0 i.1 refl
      go false true e f = let i = first_is_lem 129 (eqb-true (get_or ks 0 0) 129 f) refl refl in begun false true (is_heading ks) (is_closing ks) i.0 i.1 refl
      go false false e f = other (is_heading ks) (is_closing ks)

pub class_claims : (ks : List ℕ) → is_claim (piece_class ks).class ≡ ((eqb (get_or ks 0 0) 53 || eqb (get_or ks 0 0) 129) && is_name (get_or ks 1 0))
unfolding piece_class claim_class
class_claims ks = claims_by_words ks (cond (has_name ks) (behind_word ks) 0)

pub begins_claim_lem : (p : Piece) → begins_claim p ≡ is_claim (class_of p)
unfolding begins_claim spelling
begins_claim_lem p =
    ap (λ (k : ℕ). (eqb k 53 || eqb k 129) && is_name (own_name p).kind) (sym (kinds_at_lem p 0))
    ∙ ap (λ (k : ℕ). (eqb (get_or (kinds_in_piece p) 0 0) 53 || eqb (get_or (kinds_in_piece p) 0 0) 129) && is_name k) (sym (kinds_at_lem p 1))
    ∙ sym (class_claims (kinds_in_piece p))

-- so by its class
pub names_by_class : (p : Piece) → names_claimed p ≡ cond (is_claim (class_of p)) (own_name p ∷ []) []
unfolding names_claimed
names_by_class p = ap (λ (b : Bool). cond b (own_name p ∷ []) []) (begins_claim_lem p)
