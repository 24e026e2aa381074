-- What the rows of a whole file are: trees over all its elements, each row fitting its line (01, "Forms of the strict reading"). Assumes nothing:
-- these are definitions.
use Rattle.std.specs.Prelude.{ℕ, ◌+◌, ◌≡◌, List, [], ◌∷◌, ◌++◌, length}
use Rattle.forms.specs.Tree.{Row, Forest}
use Rattle.forms.specs.FormLines.{form_line, Fits, items_in, RowsFit}

-- The trees stand one right after the other, from lo to hi: every element is in one of them.
pub data Tiled : ℕ → ℕ → List Row → Type 0 where
  none : {lo hi : ℕ} → lo ≡ hi → Tiled lo hi []
  unit : {lo hi : ℕ} {r : Row} {inside after rest : List Row}
      → r.first ≡ lo
      → Forest r.first (r.first + r.count) inside
      → r.rows ≡ length inside + 1
      → Tiled (r.first + r.count) hi after
      → inside ++ after ≡ rest
      → Tiled lo hi (r ∷ rest)

-- the rows of a file: its outermost ones are units, and every row fits its line
abbrev pub TreeFits : List ℕ → List Row → Type 0
TreeFits w l = Fits w 0 (form_line 0) (items_in w 0 0 (length w) l) × RowsFit w l
