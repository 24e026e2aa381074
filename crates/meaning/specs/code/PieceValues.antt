-- What each piece of a package comes to, from the first to the last, and the item table (01, "Pieces, items, states"). Assumes nothing.
use Rattle.std.specs.Prelude.{ℕ, Bool, true, false, cond, List, [], ◌∷◌, ◌++◌, eqb}
use Rattle.forms.specs.Tree.{Row}
use Rattle.pieces.specs.Kinds.{any_down}
use Rattle.tree.specs.code.PieceRows.{rows_of_piece}
use Rattle.folding.specs.declared.Outcome.{Outcome}
use Rattle.operands.specs.code.Operands.{literal_by}
use Rattle.marks.specs.code.Marks.{operand_of, constant_of, subtype_of, ranged_of}
use Rattle.values.specs.declared.Value.{Value}
use Rattle.values.specs.declared.Value.TheVariants.{Without}
use Rattle.states.specs.States as state
use Rattle.pieces.specs.Classes as class
use Rattle.meaning.specs.Elements.{Element, Piece, at}
use Rattle.meaning.specs.Pieces.{kinds_in_piece, pieces_of, class_of}
use Rattle.meaning.specs.Names.{own_doubled, Done, use_of}
use Rattle.forms.specs.Tree.{behind}
use Rattle.expressions.specs.code.Expressions.{outcome_of}
use Rattle.meaning.specs.Records.{records_from}

-- a piece, and what the names used in it come to
module _ (p : Piece) (used : Element → Value) where
  -- an expression of it
  unfoldable pub valued : List Row → Outcome
  valued rs = outcome_of (λ i. operand_of (used (at p i))) (λ i. literal_by (at p i).kind (at p i).bytes) (λ i. (at p i).kind) rs

  -- [range 10]: the two bounds
  abbrev pub bounded : Value → List Row → Value
  bounded mark [] = subtype_of mark
  bounded mark (range ∷ rs) = ranged_of mark (valued rs) (valued (behind rs)) (any_down (kinds_in_piece p))

  -- constant N : mark := expression; subtype N is mark [range 10]
  abbrev pub marked : Value → List Row → Value
  marked mark rs = cond (eqb (class_of p) class.constant) (constant_of mark (valued rs)) (bounded mark rs)

  -- the item's own row, the mark's, and the rest
  abbrev pub formed : List Row → Value
  formed [] = Without state.broken
  formed (item ∷ []) = Without state.broken
  formed (item ∷ mark ∷ rs) = marked (used (at p mark.first)) rs

-- 1, "no form fits", before 2, "its name has another claim", before the rest
abbrev pub unless_doubled : Bool → List Row → Value → Value
unless_doubled d [] v = Without state.broken
unless_doubled true (r ∷ rs) v = Without state.doubled
unless_doubled false (r ∷ rs) v = v

-- what a piece comes to, below `above` in the text `all`: "The smallest of 1 to 6 wins"
unfoldable pub value_of : List Piece → List Done → Piece → Value
value_of all above p = unless_doubled (own_doubled all p) (rows_of_piece (kinds_in_piece p)) (formed p (use_of all above) (rows_of_piece (kinds_in_piece p)))

abbrev pub done_of : List Piece → List Done → Piece → Done
done_of all above p = record { piece = p; value = value_of all above p }

-- the pieces from the first below `above` on, each with what it comes to
unfoldable pub dones_from : List Piece → List Done → List Piece → List Done
dones_from all above [] = []
dones_from all above (p ∷ ps) = done_of all above p ∷ dones_from all (above ++ done_of all above p ∷ []) ps

unfoldable pub dones_of : List Piece → List Done
dones_of ps = dones_from ps [] ps

-- "one record to a piece"
unfoldable pub records_of : List ℕ → List ℕ
records_of text = records_from 0 (dones_of (pieces_of text))
