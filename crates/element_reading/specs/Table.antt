-- The element table: three words to a row. The code puts each row as it is found, where the table has room. Request 13 (packed rows)
-- changes `cells`. Assumes nothing.
use Rattle.std.specs.Prelude.{ℕ, suc, List, [], ◌∷◌}
use Rattle.places.specs.Places.{put_row}
use Rattle.elements.specs.Kinds.{kind_number}
use Rattle.element_reading.specs.Rows.{ElementRow}

-- the words of rows: "kind, first byte and length"
unfoldable pub cells : List ElementRow → List ℕ
cells [] = []
cells (r ∷ rs) = kind_number r.kind ∷ r.first ∷ r.size ∷ cells rs

-- rows put one after the other, from number n on
unfoldable pub puts : List ℕ → ℕ → List ElementRow → List ℕ
puts t n [] = t
puts t n (r ∷ rs) = puts (put_row t n (kind_number r.kind) r.first r.size) (suc n) rs
