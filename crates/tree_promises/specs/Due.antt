-- When each of refusals 5, 6 and 7 is due at a place, in the words of 01's table and said of the elements alone (01, "Refusals and their
-- order"). `w` is what the elements are to the forms; `alike` tells whether two of them are the same name. Assumes nothing: these are
-- definitions.
use Rattle.std.specs.Prelude.{ℕ, suc, ◌<◌, ◌≡◌, ◌⊎◌, Bool, false, List, length}
use Rattle.forms.specs.Tree.{Row, most_open}
use Rattle.forms.specs.Open.{open_after}
use Rattle.forms.specs.Closing.{Name, named, closes_at, is_named_as}
use Rattle.one_tree.specs.Files.{IsTree, HasTree, Begins}

-- 5, "elements up to here begin no file; or the text ends early": those before k begin a file, and with the element at k they begin none; or
-- k is their count, and they are no file
abbrev pub NoFileDue : List ℕ → ℕ → Type 0
NoFileDue w k = Begins w k × (((k < length w) × (Begins w (suc k) → ⊥)) ⊎ ((k ≡ length w) × (HasTree w → ⊥)))

-- 6, "closing name or label differs, or closes what had none": element k is a closing name, and what it closes has another name, or none
abbrev pub NameDue : (ℕ → ℕ → Bool) → List ℕ → ℕ → Type 0
NameDue alike w k = (name : Name) × ((closes_at w k ≡ named name) × (is_named_as alike name k ≡ false))

-- 7, "more than 32 open after this element"
abbrev pub DepthDue : List ℕ → ℕ → Type 0
DepthDue w k = (k < length w) × (most_open < open_after w (suc k))

-- The elements are a file with the tree l: the table reads them, and neither 6 nor 7 is due at any of them.
abbrev pub IsFileOf : (ℕ → ℕ → Bool) → List ℕ → List Row → Type 0
IsFileOf alike w l = IsTree w l × ((k : ℕ) → NameDue alike w k → ⊥) × ((k : ℕ) → DepthDue w k → ⊥)

-- one of the three is due at k
abbrev pub SomeDue : (ℕ → ℕ → Bool) → List ℕ → ℕ → Type 0
SomeDue alike w k = NoFileDue w k ⊎ (NameDue alike w k ⊎ DepthDue w k)

-- "of 5, 6, 7 the first element decides": none of the three is due before k
abbrev pub NoneBefore : (ℕ → ℕ → Bool) → List ℕ → ℕ → Type 0
NoneBefore alike w k = (j : ℕ) → j < k → SomeDue alike w j → ⊥

-- Which of the three decides, and where: at the first place at which one is due, the first in the table's order of those that are due there.
-- 5 decides at k: it is due there
abbrev pub NoFileFirst : (ℕ → ℕ → Bool) → List ℕ → ℕ → Type 0
NoFileFirst alike w k = NoFileDue w k × NoneBefore alike w k

-- 6 decides at k: it is due there, and 5 is not
abbrev pub NameFirst : (ℕ → ℕ → Bool) → List ℕ → ℕ → Type 0
NameFirst alike w k = NameDue alike w k × (NoFileDue w k → ⊥) × NoneBefore alike w k

-- 7 decides at k: it is due there, and neither 5 nor 6 is
abbrev pub DepthFirst : (ℕ → ℕ → Bool) → List ℕ → ℕ → Type 0
DepthFirst alike w k = DepthDue w k × (NoFileDue w k → ⊥) × (NameDue alike w k → ⊥) × NoneBefore alike w k
