-- When two elements are the same name (01, "Elements": identifiers ignore case; extended ones keep it and equal no basic identifier), and when
-- one is spelled as given bytes. Elements are rows of the element table: kind, first byte, length in bytes. Assumes nothing: these are definitions.
use Rattle.std.specs.Prelude.{ℕ, zero, suc, Bool, true, false, cond, ◌&&◌, List, eqb, get_or, take, drop}
use Rattle.places.specs.Places.{kind_column, first_column, size_column, cell_at, within}
use Rattle.same_names.specs.Spelling.{counts, spelt, by_kind}

-- the n bytes of s from x and from y count the same
unfoldable pub agree : Bool → List ℕ → ℕ → ℕ → ℕ → Bool
agree basic s x y zero = true
agree basic s x y (suc n) = eqb (counts basic (get_or s x 0)) (counts basic (get_or s y 0)) && agree basic s (suc x) (suc y) n

-- two elements are spelled the same
unfoldable pub spelled_same : Bool → List ℕ → List ℕ → ℕ → ℕ → Bool
spelled_same basic s table a b =
    cond (eqb (cell_at table a size_column) (cell_at table b size_column))
    (cond (within s (cell_at table a first_column) (cell_at table a size_column) && within s (cell_at table b first_column) (cell_at table a size_column)) (agree basic s (cell_at table a first_column) (cell_at table b first_column) (cell_at table a size_column)) false)
    false

-- elements a and b are names, and the same
unfoldable pub same_name : List ℕ → List ℕ → ℕ → ℕ → Bool
same_name s table a b =
    cond (eqb (cell_at table a kind_column) (cell_at table b kind_column)) (by_kind (cell_at table a kind_column) (spelled_same true s table a b) (spelled_same false s table a b)) false

-- element e stands in the text and is spelled as the name
unfoldable pub spelled_as : Bool → List ℕ → List ℕ → ℕ → List ℕ → Bool
spelled_as basic text elements e name =
    cond (within text (cell_at elements e first_column) (cell_at elements e size_column)) (spelt basic (take (cell_at elements e size_column) (drop (cell_at elements e first_column) text)) name) false
