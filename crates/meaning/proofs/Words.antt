-- The words of the item table by a record's number. Assumes nothing.
use mathlib.Core.Path.{◌≡◌, refl, sym, ap, ◌∙◌}
use mathlib.Core.List.{List, [], ◌∷◌, ◌++◌}
use Prim.Native.Nat.{ℕ, zero, suc, ◌+◌, ◌*◌, ◌≤◌, ◌<◌}
use native.Mathlib.Omega.{arith}
use lib.ListN.{length, get_or, take, drop, replicate, length-append, length-replicate}
use lib.Seq.{split_at, length-take-le, get_or-append-add}
use Rattle.pieces.specs.Kinds.{piece_class}
use Rattle.pieces.specs.Records.{name_of}
use Rattle.records.specs.Records.{word_at, is_item}
use Rattle.pieces.specs.Columns as column
use Rattle.pieces.specs.Columns.{record_words}
use Rattle.meaning.specs.Elements.{Piece}
use Rattle.meaning.specs.Pieces.{kinds_in_piece, class_of}
use Rattle.meaning.proofs.Cutting.{total}
use Rattle.meaning.specs.Names.{Done}
use Rattle.meaning.specs.Records.{item_value_words, record_of, records_from}
use Rattle.meaning.proofs.Records.{pending, pendings, pieces_done, pieces_pending, pieces_append, records_length, word_at_record}

-- the piece of a number, and what it comes to; past the last an empty one
abbrev pub piece_at : List Piece → ℕ → Piece
piece_at ps j = get_or ps j []

abbrev pub done_at : List Done → ℕ → Done
done_at ds j = get_or ds j (pending [])

-- the table
abbrev pub item_table : List Done → ℕ → List ℕ
item_table ds y = records_from 0 ds ++ replicate y 0

pub pieces_at : (ds : List Done) (j : ℕ) → piece_at (pieces_done ds) j ≡ (done_at ds j).piece
unfolding pieces_done
pieces_at [] j = refl
pieces_at (d ∷ ds) zero = refl
pieces_at (d ∷ ds) (suc j) = pieces_at ds j

-- those done, and the rest that wait
pub pieces_waiting : (ds : List Done) (rest ps : List Piece) → pieces_done ds ++ rest ≡ ps → pieces_done (ds ++ pendings rest) ≡ ps
pieces_waiting ds rest ps e = pieces_append ds (pendings rest) ∙ ap (λ (qs : List Piece). pieces_done ds ++ qs) (pieces_pending rest) ∙ e

pieces_take : (ds : List Done) (j : ℕ) → pieces_done (take j ds) ≡ take j (pieces_done ds)
unfolding pieces_done
pieces_take ds zero = refl
pieces_take [] (suc j) = refl
pieces_take (d ∷ ds) (suc j) = ap (λ (ps : List Piece). d.piece ∷ ps) (pieces_take ds j)

pub items_length : (ds : List Done) (y : ℕ) → length (item_table ds y) ≡ record_words * length ds + y
items_length ds y = omega (arith, length-append (records_from 0 ds) (replicate y 0), records_length 0 ds, length-replicate {A = ℕ} y 0)

module _ (ds : List Done) (y j : ℕ) (h : j < length ds) where
  pub word_of : (k : ℕ) → k ≤ column.high → word_at (item_table ds y) j k ≡ get_or (record_of (total (take j (pieces_done ds))) (done_at ds j)) k 0
  word_of k g =
      ap (λ (l : List Done). word_at (item_table l y) j k) (split_at ds j (pending []) h)
      ∙ ap (λ (i : ℕ). word_at (item_table (take j ds ++ done_at ds j ∷ drop (suc j) ds) y) i k) (sym (length-take-le j ds (omega arith)))
      ∙ word_at_record (take j ds) (drop (suc j) ds) (done_at ds j) (replicate y 0) k g
      ∙ ap (λ (ps : List Piece). get_or (record_of (total ps) (done_at ds j)) k 0) (pieces_take ds j)

  pub class_at_lem : word_at (item_table ds y) j column.class ≡ class_of (done_at ds j).piece
  unfolding record_of
  class_at_lem = word_of 0 (omega arith)

  pub name_at_lem : word_at (item_table ds y) j column.name ≡ name_of (total (take j (pieces_done ds))) (piece_class (kinds_in_piece (done_at ds j).piece)).place
  unfolding record_of
  name_at_lem = word_of column.name (omega arith)

  -- the last four, k being 0 to 3
  pub value_word : (k : ℕ) → k < 4 → word_at (item_table ds y) j (column.state + k) ≡ get_or (item_value_words (is_item (class_of (done_at ds j).piece)) (done_at ds j).value) k 0
  unfolding record_of
  value_word k g =
      let p = (done_at ds j).piece in
      let from = total (take j (pieces_done ds)) in
      word_of (column.state + k) (omega arith)
      ∙ get_or-append-add (class_of p ∷ from ∷ length p ∷ name_of from (piece_class (kinds_in_piece p)).place ∷ []) (item_value_words (is_item (class_of p)) (done_at ds j).value) k 0
