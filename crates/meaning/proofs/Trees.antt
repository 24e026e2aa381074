-- The rows that the code has of a piece are its tree by 01's table, and there are none where it has no tree. Assumes nothing.
use Prim.Native.Nat.{ℕ}
use mathlib.Core.Path.{◌≡◌, refl, sym, ◌∙◌}
use mathlib.Core.Logic.{inl, inr}
use mathlib.Core.Bool.{Bool, true, false}
use mathlib.Core.List.{List, [], ◌∷◌}
use borrow.Author.Tests.{eqb-true, eqb-false}
use lib.Dec.{eqb}
use lib.ListN.{get_or}
use Rattle.laws.proofs.Laws.{clash}
use Rattle.forms.specs.code.RuleNames.{constant, subtype}
use Rattle.forms.specs.Tree.{Row}
use Rattle.pieces.specs.Kinds.{word_constant, word_subtype}
use Rattle.tree.specs.code.PieceRows.{unlike, rows_of_piece}
use Rattle.tree.proofs.ItemRows.{Rows, constant_rows, subtype_rows, other_rows, constant_read, subtype_read}
use Rattle.meaning.specs.Elements.{Piece}
use Rattle.meaning.specs.Pieces.{kinds_in_piece}
use Rattle.meaning.specs.FittingPieces.{ItemTree}
use Rattle.meaning.proofs.Readings.{constant_reading, subtype_reading}
use Rattle.meaning.proofs.Begins.{constant_tree_begins, subtype_tree_begins}
use Rattle.meaning.proofs.Promises.{first_kind}

-- the tree is what the code has
pub rows_are : (p : Piece) (l : List Row) → ItemTree p l → rows_of_piece (kinds_in_piece p) ≡ l
rows_are p l (inl t) =
    let r = (constant_reading p l).0 t in
    constant_read (kinds_in_piece p) (first_kind p ∙ (constant_tree_begins p l t).first) unlike r.0 r.1.0 ∙ r.1.1
rows_are p l (inr t) =
    let r = (subtype_reading p l).0 t in
    subtype_read (kinds_in_piece p) (first_kind p ∙ (subtype_tree_begins p l t).first) unlike r.0 r.1.0 ∙ r.1.1

-- and what it has is the tree
none_there : (r : Row) (l : List Row) → [] ≡ r ∷ l → ⊥
none_there r l e = let z : ◌≡◌ {A = ℕ} 0 1 = cc in clash z

module _ (p : Piece) (r : Row) (l : List Row) (e : rows_of_piece (kinds_in_piece p) ≡ r ∷ l) where
  by_constant : Rows constant 4 (kinds_in_piece p) → ItemTree p (r ∷ l)
  by_constant (inl h) = absurd (none_there r l (sym h.0 ∙ e))
  by_constant (inr (m, (q, (s, (d, t))))) = inl ((constant_reading p (r ∷ l)).1 (s, (d, sym t ∙ e)))

  by_subtype : Rows subtype 5 (kinds_in_piece p) → ItemTree p (r ∷ l)
  by_subtype (inl h) = absurd (none_there r l (sym h.0 ∙ e))
  by_subtype (inr (m, (q, (s, (d, t))))) = inr ((subtype_reading p (r ∷ l)).1 (s, (d, sym t ∙ e)))

  pub tree_is : ItemTree p (r ∷ l)
  tree_is = go (eqb (get_or (kinds_in_piece p) 0 0) word_constant) (eqb (get_or (kinds_in_piece p) 0 0) word_subtype) refl refl
    where
      go : (a b : Bool) → eqb (get_or (kinds_in_piece p) 0 0) word_constant ≡ a → eqb (get_or (kinds_in_piece p) 0 0) word_subtype ≡ b → ItemTree p (r ∷ l)
      go true b x y = by_constant (constant_rows (kinds_in_piece p) (eqb-true (get_or (kinds_in_piece p) 0 0) word_constant x))
      go false true x y = by_subtype (subtype_rows (kinds_in_piece p) (eqb-true (get_or (kinds_in_piece p) 0 0) word_subtype y))
      go false false x y =
          absurd
          (none_there r l
          (sym (other_rows (kinds_in_piece p) (eqb-false (get_or (kinds_in_piece p) 0 0) word_constant x) (eqb-false (get_or (kinds_in_piece p) 0 0) word_subtype y)) ∙ e))
