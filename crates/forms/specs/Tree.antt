-- A row of the tree, and what rows parent first are: a forest. Each row's subtree count and span hold its children and nothing else; what no
-- child has hangs on the row itself, as leaves (01, "Forms of the strict reading"). Assumes nothing: these are definitions.
use Rattle.std.specs.Prelude.{ℕ, ◌+◌, ◌≤◌, ◌≡◌, List, [], ◌∷◌, ◌++◌, length, drop}

-- a row of the tree: form, first element, element count, rows in its subtree with itself, operator element
pub record Row : Type 0 where
  pub form : ℕ
  pub first : ℕ
  pub count : ℕ
  pub rows : ℕ
  pub operator : ℕ

-- the rows after the first one's subtree
abbrev pub behind : List Row → List Row
behind [] = []
behind (r ∷ rs) = drop r.rows (r ∷ rs)

-- how many may stand open together (01, "What the reader covers")
abbrev pub most_open : ℕ
most_open = 32

-- of every row
abbrev pub EachRow : (Row → Type 0) → List Row → Type 0
EachRow P [] = Unit {0}
EachRow P (r ∷ rows) = P r × EachRow P rows

-- The rows are trees, one after the other, within the elements from lo to hi. A tree is a row and then the rows inside it, which are a
-- forest within its span and, with itself, as many as it says.
pub data Forest : ℕ → ℕ → List Row → Type 0 where
  bare : {lo hi : ℕ} → lo ≤ hi → Forest lo hi []
  tree : {lo hi : ℕ} {r : Row} {inside after rest : List Row}
      → lo ≤ r.first
      → Forest r.first (r.first + r.count) inside
      → r.rows ≡ length inside + 1
      → Forest (r.first + r.count) hi after
      → inside ++ after ≡ rest
      → Forest lo hi (r ∷ rest)
