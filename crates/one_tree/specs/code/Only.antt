-- That a file has one tree by 01's table and no other, the one that is answered, and that the rules read what the table does; the same of a
-- constant or a subtype read alone, as the survey does. Assumes nothing: these are definitions, and proofs/Only.antt has the proofs.
use Rattle.std.specs.Prelude.{ℕ, ◌≡◌, ◌↔◌, ◌⊎◌, Bool, List, [], ◌∷◌}
use Rattle.grammars.specs.code.Grammar.{Sym, Gen}
use Rattle.grammars.specs.code.Actions.{stopped, Reads}
use Rattle.forms.specs.code.RuleNames.{file, constant, subtype}
use Rattle.forms.specs.code.Rules.{forms}
use Rattle.forms.specs.Tree.{Row}
use Rattle.forms.specs.code.RuleActions.{State, Refusal, does, start, state_rows, IsFile, Reading}
use Rattle.forms.specs.code.Reading.{file_reading}
use Rattle.forms.specs.code.Reading as rules
use Rattle.forms.specs.code.ItemReading.{ItemReading}
use Rattle.one_tree.specs.Trees.{IsConstant, IsSubtype, Shallow}
use Rattle.one_tree.specs.Files.{IsTree, HasTree, Begins}

-- The table has one tree to elements, and the rules have the same: for a name of the rules, and what the rows are where it is read.
pub record TreeOf (from : Sym) (Is : List ℕ → List Row → Type 0) : Type 0 where
  -- only such a tree: two trees of the same elements are the same
  pub only_such : (w : List ℕ) (l l' : List Row) → Is w l → Is w l' → l ≡ l'
  -- the rules read exactly the elements that have a tree
  pub read_exactly : (w : List ℕ) → Gen forms (from ∷ []) w ↔ ((l : List Row) × Is w l)
  -- the rows that are read are the tree
  pub reads_trees : (alike : ℕ → ℕ → Bool) (w : List ℕ) (s : State) → Reads State Refusal forms (does alike) (from ∷ []) 0 start w s → Is w (state_rows s)

-- a file; and a constant (form 4) or a subtype (form 5) alone
abbrev pub FileTree : Type 0
FileTree = TreeOf file IsTree

abbrev pub ConstantTree : Type 0
ConstantTree = TreeOf constant IsConstant

abbrev pub SubtypeTree : Type 0
SubtypeTree = TreeOf subtype IsSubtype

-- A constant or a subtype alone is read, and gives these rows, exactly where its elements have this tree and no more than 32 parentheses ever
-- stand open: the depth is all that the rules know beside the table.
abbrev pub ReadAlone : Sym → (List ℕ → List Row → Type 0) → Type 0
ReadAlone from Is = (alike : ℕ → ℕ → Bool) (w : List ℕ) (l : List Row) → (Is w l × Shallow 0 w) ↔ ((s : State) × (ItemReading from alike w s × (state_rows s ≡ l)))

abbrev pub ConstantAlone : Type 0
ConstantAlone = ReadAlone constant IsConstant

abbrev pub SubtypeAlone : Type 0
SubtypeAlone = ReadAlone subtype IsSubtype

-- So, of a file, in words of its own. Only such a tree.
abbrev pub OnlySuch : Type 0
OnlySuch = (w : List ℕ) (l l' : List Row) → IsTree w l → IsTree w l' → l ≡ l'

-- a file by the rules is exactly what has a tree by the table: what the table reads, the rules do, and nothing else
abbrev pub FilesHaveTrees : Type 0
FilesHaveTrees = (w : List ℕ) → IsFile w ↔ HasTree w

-- and elements begin one exactly where they begin the other
abbrev pub BeginAlike : Type 0
BeginAlike = (w : List ℕ) (j : ℕ) → rules.BeginsFile w j ↔ Begins w j

-- what is read is such a tree, and whatever tree the elements have is the one that is read
abbrev pub ReadsTheTree : Type 0
ReadsTheTree = (alike : ℕ → ℕ → Bool) (w : List ℕ) (s : State) (l : List Row) → Reading alike w s → IsTree w l ↔ (l ≡ state_rows s)

-- elements that have a tree are read as that tree, unless a closing name differs or more than 32 stand open (refusals 6 and 7)
abbrev pub TreesAreRead : Type 0
TreesAreRead =
    (alike : ℕ → ℕ → Bool) (w : List ℕ) (l : List Row) → IsTree w l
    → ((s : State) × (Reading alike w s × (state_rows s ≡ l))) ⊎ ((k : ℕ) × ((r : Refusal) × (file_reading alike w ≡ stopped k r)))
