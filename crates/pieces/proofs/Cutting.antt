-- Laws of cutting, over elements of any type: the first piece and the rest, and elements with a cut between them cut apart. Assumes nothing.
use Prim.Native.Nat.{ℕ, suc, ◌≤◌}
use mathlib.Core.Path.{◌≡◌, refl, ap, ◌∙◌}
use mathlib.Core.List.{List, [], ◌∷◌, ◌++◌}
use mathlib.Core.Bool.{Bool, true, false, ◌||◌}
use native.Mathlib.Omega.{arith}
use lib.Dec.{T}
use lib.ListN.{length, take, drop}
use Rattle.pieces.specs.Cutting as spec
use Rattle.laws.proofs.Laws.{is_true}

module _ {E : Type 0} (closes opens : E → Bool) where
  abbrev more : Bool → List E → ℕ
  more = spec.more closes opens

  abbrev size : List E → ℕ
  size = spec.piece_size closes opens

  abbrev cut : List E → List (List E)
  cut = spec.cut closes opens

  pub more_none : (closed : Bool) (x : E) (l : List E) → (closed || opens x) ≡ true → more closed (x ∷ l) ≡ 0
  unfolding spec.more
  more_none closed x l e = rw (e, spec.more)

  pub more_on : (closed : Bool) (x : E) (l : List E) → (closed || opens x) ≡ false → more closed (x ∷ l) ≡ suc (more (closes x) l)
  unfolding spec.more
  more_on closed x l e = rw (e, spec.more)

  pub more_le : (closed : Bool) (l : List E) → more closed l ≤ length l
  unfolding spec.more
  more_le closed [] = omega arith
  more_le closed (x ∷ l) = go (closed || opens x) refl (more_le (closes x) l)
    where
      go : (b : Bool) → (closed || opens x) ≡ b → more (closes x) l ≤ length l → more closed (x ∷ l) ≤ suc (length l)
      go true e h = omega (arith, more_none closed x l e)
      go false e h = omega (arith, more_on closed x l e)

  pub size_le : (l : List E) → size l ≤ length l
  unfolding spec.piece_size
  size_le [] = omega arith
  size_le (x ∷ l) = omega (arith, more_le (closes x) l)

  -- the first piece, and the pieces of what is after it
  pub cut_first : (x : E) (l : List E) → cut (x ∷ l) ≡ take (size (x ∷ l)) (x ∷ l) ∷ cut (drop (size (x ∷ l)) (x ∷ l))
  unfolding spec.cut spec.piece_size spec.more
  cut_first x [] = refl
  cut_first x (y ∷ l) = go (closes x || opens y) refl (cut_first y l)
    where
      go : (b : Bool) → (closes x || opens y) ≡ b → cut (y ∷ l) ≡ take (size (y ∷ l)) (y ∷ l) ∷ cut (drop (size (y ∷ l)) (y ∷ l))
          → cut (x ∷ (y ∷ l)) ≡ take (size (x ∷ (y ∷ l))) (x ∷ (y ∷ l)) ∷ cut (drop (size (x ∷ (y ∷ l))) (x ∷ (y ∷ l)))
      go true e h = rw (e, more_none (closes x) y l e)
      go false e h = rw (e, more_on (closes x) y l e, h)

  -- there is a cut between the two
  abbrev pub Edge : List E → List E → Type 0
  Edge [] ys = Unit {0}
  Edge (x ∷ []) [] = Unit {0}
  Edge (x ∷ []) (y ∷ ys) = T (closes x || opens y)
  Edge (x ∷ (x' ∷ xs)) ys = Edge (x' ∷ xs) ys

  some : (x : E) (l : List E) → (p : List E) × (ps : List (List E)) × (cut (x ∷ l) ≡ p ∷ ps)
  some x l = (take (size (x ∷ l)) (x ∷ l), cut (drop (size (x ∷ l)) (x ∷ l)), cut_first x l)

  -- "Elements are cut": two lists with a cut between them are cut each by itself
  pub cut_join : (xs ys : List E) → Edge xs ys → cut (xs ++ ys) ≡ cut xs ++ cut ys
  unfolding spec.cut
  cut_join [] ys h = refl
  cut_join (x ∷ []) [] h = refl
  cut_join (x ∷ []) (y ∷ ys) h = rw (is_true (closes x || opens y) h)
  cut_join (x ∷ (x' ∷ xs)) ys h =
      ap (spec.before closes opens x (x' ∷ (xs ++ ys))) (cut_join (x' ∷ xs) ys h) ∙ go (closes x || opens x')
    where
      q : (p : List E) × (ps : List (List E)) × (cut (x' ∷ xs) ≡ p ∷ ps)
      q = some x' xs

      go : (b : Bool) → spec.joined closes opens b x (cut (x' ∷ xs) ++ cut ys) ≡ spec.joined closes opens b x (cut (x' ∷ xs)) ++ cut ys
      go true = refl
      go false = rw q.2
