-- A piece's class says that it claims a name exactly when it begins with constant or subtype and then a name. Assumes nothing.
use Prim.Native.Nat.{ℕ}
use mathlib.Core.Path.{◌≡◌, refl, sym, ap, ◌∙◌}
use mathlib.Core.Logic.{◌⊎◌, inl, inr}
use mathlib.Core.Bool.{Bool, true, false, cond, ◌&&◌, ◌||◌, false≢true}
use mathlib.Core.List.{List}
use borrow.Author.Tests.{eq-eqb, eqb-true}
use lib.Dec.{eqb}
use lib.ListN.{get_or}
use Rattle.laws.proofs.Laws.{both_left, both_right}
use Rattle.pieces.specs.Kinds.{piece_class}
use Rattle.places.specs.Kinds.{is_name}
use Rattle.records.specs.Records.{is_claim}
use Rattle.meaning.specs.Elements.{Element, Piece, at}
use Rattle.meaning.specs.Pieces.{kinds_in_piece, class_of}
use Rattle.meaning.specs.Names.{own_name, claims, same_as}
use Rattle.meaning.proofs.Begun.{kinds_at_lem, class_claims}
use Rattle.meaning.proofs.Claimed.{claims_one}
use Rattle.claims.specs.Claims.{IsCalled, ClaimsName, basic, extended_element, OneRule}
use Rattle.claims.proofs.Spelling.{is_spelt, is_spelt_lem, spells_is}

abbrev Begins : ℕ → Type 0
Begins k = (k ≡ 53) ⊎ (k ≡ 129)

class_begins : (ks : List ℕ) → is_claim (piece_class ks).class ≡ true → Begins (get_or ks 0 0)
class_begins ks h =
    go (eqb (get_or ks 0 0) 53) (eqb (get_or ks 0 0) 129) refl refl
    (both_left (eqb (get_or ks 0 0) 53 || eqb (get_or ks 0 0) 129) (is_name (get_or ks 1 0)) (sym (class_claims ks) ∙ h))
  where
    go : (a b : Bool) → eqb (get_or ks 0 0) 53 ≡ a → eqb (get_or ks 0 0) 129 ≡ b → (a || b) ≡ true → Begins (get_or ks 0 0)
    go true b e f o = inl (eqb-true (get_or ks 0 0) 53 e)
    go false true e f o = inr (eqb-true (get_or ks 0 0) 129 f)
    go false false e f o = absurd (false≢true o)

begins_class : (ks : List ℕ) → Begins (get_or ks 0 0) → is_name (get_or ks 1 0) ≡ true → is_claim (piece_class ks).class ≡ true
begins_class ks (inl e) n = class_claims ks ∙ rw (e, n)
begins_class ks (inr e) n = class_claims ks ∙ rw (e, n)

-- a piece claims the name, as a test
abbrev pub is_claimed : List ℕ → Piece → Bool
is_claimed name p = is_claim (class_of p) && is_spelt name (own_name p)

begins_at : (p : Piece) → Begins (get_or (kinds_in_piece p) 0 0) → Begins (at p 0).kind
begins_at p (inl e) = inl (sym (kinds_at_lem p 0) ∙ e)
begins_at p (inr e) = inr (sym (kinds_at_lem p 0) ∙ e)

at_begins : (p : Piece) → Begins (at p 0).kind → Begins (get_or (kinds_in_piece p) 0 0)
at_begins p (inl e) = inl (kinds_at_lem p 0 ∙ e)
at_begins p (inr e) = inr (kinds_at_lem p 0 ∙ e)

pub is_claimed_lem : (name : List ℕ) (p : Piece) → is_claimed name p ≡ true → ClaimsName name p
is_claimed_lem name p h =
    (begins_at p (class_begins (kinds_in_piece p) (both_left (is_claim (class_of p)) (is_spelt name (own_name p)) h)), is_spelt_lem name (at p 1) (both_right (is_claim (class_of p)) (is_spelt name (own_name p)) h))

spells_name : (name : List ℕ) (x : Element) → IsCalled name x → is_name x.kind ≡ true
spells_name name x (inl k) = rw k.0
spells_name name x (inr k) = rw k.0

pub claims_is : (name : List ℕ) (p : Piece) → ClaimsName name p → is_claimed name p ≡ true
claims_is name p c =
    rw (begins_class (kinds_in_piece p) (at_begins p c.0) (ap is_name (kinds_at_lem p 1) ∙ spells_name name (at p 1) c.1)) (spells_is name (at p 1) c.1)

-- ---- by the survey's rule

pub one_rule : OneRule
unfolding same_as
one_rule name p = ((λ c. there c c.1), back)
  where
    class_of_lem : ClaimsName name p → is_claim (class_of p) ≡ true
    class_of_lem c = both_left (is_claim (class_of p)) (is_spelt name (own_name p)) (claims_is name p c)

    spelt_of : ClaimsName name p → is_spelt name (own_name p) ≡ true
    spelt_of c = both_right (is_claim (class_of p)) (is_spelt name (own_name p)) (claims_is name p c)

    there : ClaimsName name p → IsCalled name (at p 1) → (claims (basic name) p ≡ true) ⊎ (claims (extended_element name) p ≡ true)
    there c (inl k) = inl (claims_one (basic name) p ∙ rw (class_of_lem c, eq-eqb (own_name p).kind 1 k.0) (spelt_of c))
    there c (inr k) = inr (claims_one (extended_element name) p ∙ rw (class_of_lem c, eq-eqb (own_name p).kind 2 k.0) (spelt_of c))

    opens : (a b : Bool) {x : Bool} → (a && cond b x false) ≡ true → (a ≡ true) × (x ≡ true)
    opens true true h = (refl, h)
    opens true false h = absurd (false≢true h)
    opens false b h = absurd (false≢true h)

    joint : (a b : Bool) → a ≡ true → b ≡ true → (a && b) ≡ true
    joint a b e f = rw (e, f)

    back : (claims (basic name) p ≡ true) ⊎ (claims (extended_element name) p ≡ true) → ClaimsName name p
    back (inl h) = let z = opens (is_claim (class_of p)) (eqb (own_name p).kind 1) (sym (claims_one (basic name) p) ∙ h) in is_claimed_lem name p (joint (is_claim (class_of p)) (is_spelt name (own_name p)) z.0 z.1)
    back (inr h) = let z = opens (is_claim (class_of p)) (eqb (own_name p).kind 2) (sym (claims_one (extended_element name) p) ∙ h) in is_claimed_lem name p (joint (is_claim (class_of p)) (is_spelt name (own_name p)) z.0 z.1)
