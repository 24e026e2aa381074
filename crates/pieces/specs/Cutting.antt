-- How elements are cut into pieces, by 01's section "Pieces, items, states", over elements of any type and two tests on them. Assumes nothing.
use Rattle.std.specs.Prelude.{ℕ, suc, Bool, true, false, ◌||◌, List, [], ◌∷◌}

module _ {E : Type 0} (closes opens : E → Bool) where
  -- how many elements more the piece has, after one that closes a piece or does not
  unfoldable pub more : Bool → List E → ℕ
  more closed [] = 0
  more closed (x ∷ l) = elim (closed || opens x) [ true ↦ 0 | false ↦ suc (more (closes x) l) ]

  -- how many elements the first piece has
  unfoldable pub piece_size : List E → ℕ
  piece_size [] = 0
  piece_size (x ∷ l) = suc (more (closes x) l)

  abbrev pub put_front : E → List (List E) → List (List E)
  put_front x [] = (x ∷ []) ∷ []
  put_front x (p ∷ ps) = (x ∷ p) ∷ ps

  -- x before the elements l, whose pieces are ps: a cut between the two, or none
  abbrev pub joined : Bool → E → List (List E) → List (List E)
  joined true x ps = (x ∷ []) ∷ ps
  joined false x ps = put_front x ps

  abbrev pub before : E → List E → List (List E) → List (List E)
  before x [] ps = (x ∷ []) ∷ ps
  before x (y ∷ l) ps = joined (closes x || opens y) x ps

  -- "Elements are cut after each `;` and before each of the words constant, subtype, end."
  unfoldable pub cut : List E → List (List E)
  cut [] = []
  cut (x ∷ l) = before x l (cut l)
