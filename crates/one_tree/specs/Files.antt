-- What a file and its tree are by 01's table alone (01, "Forms of the strict reading"). Assumes nothing: these are definitions, and
-- proofs/Only.antt proves that there is one such tree and no other, the one that is answered.
use Rattle.std.specs.Prelude.{ℕ, List, ◌++◌, take}
use Rattle.forms.specs.Tree.{Row}
use Rattle.forms.specs.FormLines.{form_line}
use Rattle.one_tree.specs.Trees.{Stands}

-- a tree of a file: "A file is one or more units."
abbrev pub IsTree : List ℕ → List Row → Type 0
IsTree = Stands (form_line 0)

-- the elements are a file
abbrev pub HasTree : List ℕ → Type 0
HasTree w = (l : List Row) × IsTree w l

-- the first j elements begin some file
abbrev pub Begins : List ℕ → ℕ → Type 0
Begins w j = (v : List ℕ) × HasTree (take j w ++ v)
