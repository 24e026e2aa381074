-- Names compared and tested, one turn of a loop each. Assumes nothing.
use mathlib.Core.Path.{◌≡◌, refl, ap}
use mathlib.Core.Bool.{Bool, true, false, ◌&&◌, ◌||◌}
use mathlib.Core.List.{List, [], ◌∷◌}
use Prim.Native.Nat.{ℕ, ◌-◌}
use native.Mathlib.Omega.{arith}
use borrow.Author.Tests.{eq-eqb, eqb-true}
use lib.Dec.{eqb}
use lib.Pointwise.{pointwise}
use Rattle.std.specs.List.{list_all}
use lib.ListN.{length, take, drop, length-drop}
use lib.Seq.{take_all}
use Rattle.classes.specs.Bytes.{lower}
use Rattle.names.specs.Language.{language_names}
use Rattle.names.specs.code.Language.{integer_name, natural_name, positive_name, boolean_name, true_name, false_name}
use Rattle.stored.specs.LegalNames.{in_lower_case}
use Rattle.stored.specs.Stored.{same_bytes, among}
use Rattle.laws.proofs.Laws.{clash}

pub rest_part : (s : List ℕ) (k : ℕ) → take (length s - k) (drop k s) ≡ drop k s
rest_part s k = take_all (length s - k) (drop k s) (rw (length-drop k s) (omega arith))

-- what `==` says of slices of bytes
pub same_pointwise : (a b : List ℕ) → pointwise eqb a b ≡ same_bytes a b
unfolding same_bytes
same_pointwise [] [] = refl
same_pointwise [] (y ∷ b) = refl
same_pointwise (x ∷ a) [] = refl
same_pointwise (x ∷ a) (y ∷ b) = ap (λ (t : Bool). eqb x y && t) (same_pointwise a b)

pub same_self : (a : List ℕ) → same_bytes a a ≡ true
unfolding same_bytes
same_self [] = refl
same_self (x ∷ a) = rw (eq-eqb x x refl, same_self a)

-- equal bytes, equal lists
pub same_is : (a b : List ℕ) → same_bytes a b ≡ true → a ≡ b
unfolding same_bytes
same_is [] [] e = refl
same_is [] (y ∷ b) e = clash (cc)
same_is (x ∷ a) [] e = clash (cc)
same_is (x ∷ a) (y ∷ b) e = go (eqb x y) refl (λ h. same_is a b h) e
  where
    go : (t : Bool) → eqb x y ≡ t → (same_bytes a b ≡ true → a ≡ b) → (t && same_bytes a b) ≡ true → x ∷ a ≡ y ∷ b
    go true p f q = let w = f q in let v = eqb-true x y p in cc
    go false p f q = clash (cc)

-- ---- lower case, byte by byte
pub lower_all : (s : List ℕ) → list_all (λ b. eqb (lower b) b) s ≡ in_lower_case s
unfolding in_lower_case
lower_all [] = refl
lower_all (b ∷ s) = ap (λ (t : Bool). eqb (lower b) b && t) (lower_all s)

-- ---- an item's value and name
pub is_claimed_lem : (n : List ℕ) (a b d e f g : Bool) → a ≡ same_bytes n integer_name → b ≡ same_bytes n natural_name → d ≡ same_bytes n positive_name → e ≡ same_bytes n boolean_name
    → f ≡ same_bytes n true_name → g ≡ same_bytes n false_name → (a || (b || (d || (e || (f || (g || false)))))) ≡ among n language_names
unfolding among
is_claimed_lem n a b d e f g p q r s t u = rw (p, q, r, s, t, u)
