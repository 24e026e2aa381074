-- The forms of the first rows of an item: 4 or 5 its own, 31 its mark's, and in a subtype 10 its range's. Assumes nothing.
use Prim.Native.Nat.{ℕ}
use mathlib.Core.Path.{◌≡◌, refl, sym, ap, subst, ◌∙◌}
use mathlib.Core.Logic.{◌⊎◌, inl, inr}
use mathlib.Core.Bool.{Bool, true, false, cond, false≢true}
use mathlib.Core.List.{List, [], ◌∷◌}
use borrow.Author.Tests.{eq-eqb}
use lib.Dec.{eqb}
use lib.ListN.{get_or}
use Rattle.laws.proofs.Laws.{clash}
use Rattle.grammars.specs.code.Actions.{End, read, bad, stopped, spent}
use Rattle.forms.specs.code.RuleNames.{constant, subtype}
use Rattle.forms.specs.Tree.{Row}
use Rattle.forms.specs.code.RuleActions.{State, Refusal, state_rows}
use Rattle.forms.specs.code.Reading.{reading_from}
use Rattle.forms.specs.code.ItemReading.{item_row, mark_row}
use Rattle.forms.proofs.ItemReading.{reads_items}
use Rattle.forms.proofs.Shapes.{begin_with_mark}
use Rattle.pieces.specs.Kinds.{word_constant, word_subtype}
use Rattle.pieces.specs.Classes as class
use Rattle.tree.specs.code.Answers.{terminals_in}
use Rattle.tree.specs.code.PieceRows.{unlike, reading_by, reading_of_piece, rows_read, rows_of_piece}
use Rattle.meaning.specs.Elements.{Piece}
use Rattle.meaning.specs.Pieces.{kinds_in_piece, class_of}
use Rattle.meaning.proofs.Begins.{constant_begins}
use Rattle.meaning.proofs.Shaped.{third_row}

-- the forms of the first two rows
abbrev FirstForms : List Row → Type 0
FirstForms l = (item mark : Row) (rs : List Row) → l ≡ item ∷ mark ∷ rs → ((item.form ≡ 4) ⊎ (item.form ≡ 5)) × (mark.form ≡ 31)

first_forms : (f n : ℕ) (m l : List Row) → (f ≡ 4) ⊎ (f ≡ 5) → l ≡ item_row f n m ∷ (mark_row ∷ m) → FirstForms l
first_forms f n m l o e item mark rs q =
    let y : item_row f n m ≡ item = cc in
    let z : mark_row ≡ mark = cc in
    (subst (λ (r : Row). (r.form ≡ 4) ⊎ (r.form ≡ 5)) y o, sym (ap (λ (r : Row). r.form) z))

-- the third, unless the piece is a constant
abbrev ThirdForm : List Row → Type 0
ThirdForm l = (item mark range : Row) (rs : List Row) → l ≡ item ∷ mark ∷ range ∷ rs → range.form ≡ 10

module _ (p : Piece) where
  abbrev w : List ℕ
  w = terminals_in (kinds_in_piece p)

  abbrev first : ℕ
  first = get_or (kinds_in_piece p) 0 0

  -- what holds of no rows, and of what is read as a constant or as a subtype, holds of a piece's rows
  of_rows : (P : List Row → Type 0) → P []
      → ((s : State) → reading_from constant unlike w ≡ read s → P (state_rows s))
      → ((s : State) → reading_from subtype unlike w ≡ read s → P (state_rows s))
      → P (rows_of_piece (kinds_in_piece p))
  unfolding rows_of_piece reading_of_piece
  of_rows P none c u = by (reading_by first w) refl
    where
      by : (o : End State Refusal) → reading_by first w ≡ o → P (rows_read o)
      by (read s) e = go (eqb first word_constant) (eqb first word_subtype) e
        where
          go : (a b : Bool) → cond a (reading_from constant unlike w) (cond b (reading_from subtype unlike w) (bad 0)) ≡ read s → P (state_rows s)
          go true b f = c s f
          go false true f = u s f
          go false false f = let z : ◌≡◌ {A = ℕ} 0 1 = cc in clash z
      by (bad k) e = none
      by (stopped k r) e = none
      by spent e = none

  pub item_forms : FirstForms (rows_of_piece (kinds_in_piece p))
  item_forms =
      of_rows FirstForms (λ item mark rs q. let z : ◌≡◌ {A = ℕ} 0 1 = cc in clash z)
      (λ s f. let m = begin_with_mark.0 unlike w s ((reads_items constant (inl refl) unlike w s).0 f) in first_forms 4 _ m.0 (state_rows s) (inl refl) m.1)
      (λ s f. let m = begin_with_mark.1 unlike w s ((reads_items subtype (inr refl) unlike w s).0 f) in first_forms 5 _ m.0 (state_rows s) (inr refl) m.1)

  pub third_form : eqb (class_of p) class.constant ≡ false → ThirdForm (rows_of_piece (kinds_in_piece p))
  third_form n =
      of_rows ThirdForm (λ item mark range rs q. let z : ◌≡◌ {A = ℕ} 0 1 = cc in clash z)
      (λ s f. absurd (false≢true (sym n ∙ eq-eqb (class_of p) class.constant (constant_begins p s ((reads_items constant (inl refl) unlike w s).0 f)).classed)))
      (λ s f. third_row p s ((reads_items subtype (inr refl) unlike w s).0 f))
