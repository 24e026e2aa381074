-- The elements of a text, line by line: no element crosses a line end, and only the apostrophe rule looks back, on its line. Assumes nothing.
use Rattle.std.specs.Prelude.{ℕ, zero, suc, pred, ◌+◌, Bool, true, false, List, [], ◌∷◌, ◌++◌, length}
use Rattle.classes.specs.Signs.{ends_line}
use Rattle.elements.specs.Element.{element_at, ticks_after}
use Rattle.elements.specs.declared.Kind.{Kind}
use Rattle.elements.specs.declared.Front.TheVariants.{Skip, Element}

-- "A row has kind, first byte and length."
pub record ElementRow : Type 0 where
  pub kind : Kind
  pub first : ℕ
  pub size : ℕ

-- a byte more at the front of the first line
abbrev pub onto : ℕ → List (List ℕ) → List (List ℕ)
onto b [] = (b ∷ []) ∷ []
onto b (l ∷ ls) = (b ∷ l) ∷ ls

-- "Bytes 10, 11, 12 and 13 each end a line.": the lines, each without the byte that ends it
unfoldable pub lines_of : List ℕ → List (List ℕ)
lines_of [] = [] ∷ []
lines_of (b ∷ s) = elim (ends_line b) [ true ↦ [] ∷ lines_of s | false ↦ onto b (lines_of s) ]

-- the rows of a line's rest that stands at the byte `at`; its first k bytes belong to what was read already, and `ticks` says that the
-- element before it on the line is a non-reserved identifier or `)`
unfoldable pub line_rows : ℕ → ℕ → Bool → List ℕ → List ElementRow
line_rows zero at ticks [] = []
line_rows (suc k) at ticks [] = []
line_rows (suc k) at ticks (b ∷ l) = line_rows k (suc at) ticks l
line_rows zero at ticks (b ∷ l) =
    elim (element_at ticks (b ∷ l)) [
      | Skip n ↦ line_rows (pred n) (suc at) ticks l
      | Element k n ↦ record { kind = k; first = at; size = n } ∷ line_rows (pred n) (suc at) (ticks_after k) l
    ]

-- the rows of lines one after the other, the first of which begins at the byte `at`
unfoldable pub lines_rows : ℕ → List (List ℕ) → List ElementRow
lines_rows at [] = []
lines_rows at (l ∷ ls) = line_rows 0 at false l ++ lines_rows (suc (at + length l)) ls

unfoldable pub rows_of : List ℕ → List ElementRow
rows_of s = lines_rows 0 (lines_of s)
