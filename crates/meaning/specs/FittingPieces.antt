-- Whether a piece has one of the forms of items. Assumes nothing: these are definitions.
use Rattle.std.specs.Prelude.{◌⊎◌, List}
use Rattle.forms.specs.Tree.{Row}
use Rattle.one_tree.specs.Trees.{IsConstant, IsSubtype}
use Rattle.meaning.specs.Elements.{Piece}
use Rattle.meaning.specs.ItemForms.{ItemForm, Tree, HasForm}

-- of the one or of the other
abbrev pub ItemTree : Piece → List Row → Type 0
ItemTree p rs = Tree IsConstant p rs ⊎ Tree IsSubtype p rs

-- "a constant or a subtype by the forms above"
abbrev pub FitsAForm : Piece → Type 0
FitsAForm p = (i : ItemForm) × HasForm p i
