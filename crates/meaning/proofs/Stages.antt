-- The item table as its pieces are done one after the other, given at each what names used and doubled names come to by the tables. Assumes
-- nothing.
use mathlib.Core.Path.{◌≡◌, refl, sym, ap, ◌∙◌}
use mathlib.Core.Bool.{Bool, true, false, cond}
use mathlib.Core.List.{List, [], ◌∷◌, ◌++◌, append_assoc}
use Prim.Native.Nat.{ℕ, suc, ◌+◌, ◌*◌, ◌/◌, ◌≤◌, min}
use native.Mathlib.Omega.{arith}
use lib.ListN.{length, length-append}
use lib.Seq.{sets}
use Rattle.element_reading.specs.Rows.{rows_of}
use Rattle.records.specs.Records.{word_at, is_item}
use Rattle.tree.specs.code.PieceRows.{item_rows}
use Rattle.values.specs.declared.Value.{Value}
use Rattle.uses.specs.code.Uses.{use_in}
use Rattle.items.specs.code.Items.{doubled_in, value_at, completed_at, completed_from, completed}
use Rattle.values.specs.ValueWords.{value_words}
use Rattle.pieces.specs.Columns as column
use Rattle.pieces.specs.Columns.{record_words}
use Rattle.meaning.specs.Elements.{Piece, at}
use Rattle.meaning.specs.Pieces.{pieces_of, class_of}
use Rattle.meaning.proofs.Cutting.{total}
use Rattle.meaning.specs.Names.{own_doubled, Done, use_of}
use Rattle.meaning.specs.Records.{record_of, records_from}
use Rattle.meaning.specs.code.PieceValues.{value_of, done_of, dones_from, dones_of, records_of}
use Rattle.meaning.proofs.Records.{pending, pendings, pieces_done, pieces_pending, pieces_append, pieces_length, records_length, word_at_record, skip_record, complete_record}
use Rattle.meaning.proofs.Good.{Good}
use Rattle.meaning.proofs.Sound.{good_more}
use Rattle.meaning.proofs.Places.{table_of, elements}
use Rattle.meaning.proofs.Values.{value_at_lem}

-- the record of a piece that waits
module _ (ds es : List Done) (p : Piece) (rest : List ℕ) where
  abbrev pub stage : List ℕ
  stage = records_from 0 (ds ++ pending p ∷ es) ++ rest

  pub class_waiting : word_at stage (length ds) column.class ≡ class_of p
  unfolding record_of
  class_waiting = word_at_record ds es (pending p) rest 0 (omega arith)

  pub first_waiting : word_at stage (length ds) column.first ≡ total (pieces_done ds)
  unfolding record_of
  first_waiting = word_at_record ds es (pending p) rest 1 (omega arith)

  pub count_waiting : word_at stage (length ds) column.count ≡ length p
  unfolding record_of
  count_waiting = word_at_record ds es (pending p) rest 2 (omega arith)

more_done : (ds : List Done) (d : Done) (left : List Piece) → pieces_done (ds ++ d ∷ []) ++ left ≡ pieces_done ds ++ d.piece ∷ left
unfolding pieces_done
more_done ds d left = ap (λ (l : List Piece). l ++ left) (pieces_append ds (d ∷ [])) ∙ append_assoc (pieces_done ds) (d.piece ∷ []) left

module _ (s : List ℕ) (z : ℕ) (links twins rest : List ℕ) (count : ℕ) (whole : count ≡ length (rows_of s)) (few : length (rows_of s) ≤ 8192) where
  abbrev rows : List ℕ
  rows = item_rows (table_of s z) count 40960

  -- names used in a piece that waits, after those done, come to what they do by the text; and so does its own name's being doubled
  abbrev pub Told : List Done → Piece → List Done → Type 0
  Told ds p es =
      ((e : ℕ) → use_in s (table_of s z) (stage ds es p rest) links (length ds) e ≡ use_of (pieces_of s) ds (at (elements s) e))
      × (doubled_in s (table_of s z) twins (stage ds es p rest) (length ds) ≡ own_doubled (pieces_of s) p)

  module _ (ds es : List Done) (p : Piece) (after : List Piece) (split : pieces_done ds ++ p ∷ after ≡ pieces_of s) (told : Told ds p es) where
    pub value_here : value_at s (table_of s z) links twins rows (stage ds es p rest) (length ds) ≡ value_of (pieces_of s) ds p
    value_here =
        value_at_lem s z (pieces_done ds) after p split (stage ds es p rest) (length ds) (first_waiting ds es p rest) (count_waiting ds es p rest) count whole few
        (class_waiting ds es p rest) ds links twins told.0 told.1

    -- one piece done
    pub completed_one : completed_at s (table_of s z) links twins rows (stage ds es p rest) (length ds) ≡ records_from 0 (ds ++ done_of (pieces_of s) ds p ∷ es) ++ rest
    unfolding completed_at
    completed_one =
        ap (λ (v : Value). cond (is_item (word_at (stage ds es p rest) (length ds) column.class)) (sets (stage ds es p rest) (record_words * length ds + column.state) (value_words v)) (stage ds es p rest)) value_here
        ∙ ap (λ (c : ℕ). cond (is_item c) (sets (stage ds es p rest) (record_words * length ds + column.state) (value_words (value_of (pieces_of s) ds p))) (stage ds es p rest)) (class_waiting ds es p rest)
        ∙ go (is_item (class_of p)) refl
      where
        go : (b : Bool) → is_item (class_of p) ≡ b
            → cond b (sets (stage ds es p rest) (record_words * length ds + column.state) (value_words (value_of (pieces_of s) ds p))) (stage ds es p rest) ≡ records_from 0 (ds ++ done_of (pieces_of s) ds p ∷ es) ++ rest
        go true h = complete_record ds es p (value_of (pieces_of s) ds p) rest h
        go false h = skip_record ds es p (value_of (pieces_of s) ds p) rest h

  abbrev pub ToldAll : Type 0
  ToldAll = (ds : List Done) (p : Piece) (after : List Piece) → pieces_done ds ++ p ∷ after ≡ pieces_of s → Good (pieces_of s) ds → Told ds p (pendings after)

  -- all that are left
  pub completed_rest : ToldAll → (ds : List Done) (left : List Piece) → pieces_done ds ++ left ≡ pieces_of s → Good (pieces_of s) ds
      → completed_from s (table_of s z) links twins rows (records_from 0 (ds ++ pendings left) ++ rest) (length ds) (length left) ≡ records_from 0 (ds ++ dones_from (pieces_of s) ds left) ++ rest
  unfolding completed_from dones_from pendings
  completed_rest told ds [] split good = refl
  completed_rest told ds (p ∷ left) split good =
      let all : List Piece = pieces_of s in
      let d : Done = done_of all ds p in
      let n : suc (length ds) ≡ length (ds ++ d ∷ []) = omega (arith, length-append ds (d ∷ [])) in
      ap (λ (l : List ℕ). completed_from s (table_of s z) links twins rows l (suc (length ds)) (length left)) (completed_one ds (pendings left) p left split (told ds p left split good))
      ∙ ap (λ (k : ℕ). completed_from s (table_of s z) links twins rows (records_from 0 (ds ++ d ∷ pendings left) ++ rest) k (length left)) n
      ∙ ap (λ (l : List Done). completed_from s (table_of s z) links twins rows (records_from 0 l ++ rest) (length (ds ++ d ∷ [])) (length left)) (sym (append_assoc ds (d ∷ []) (pendings left)))
      ∙ completed_rest told (ds ++ d ∷ []) left (more_done ds d left ∙ split) (good_more all ds p good)
      ∙ ap (λ (l : List Done). records_from 0 l ++ rest) (append_assoc ds (d ∷ []) (dones_from all (ds ++ d ∷ []) left))

  -- all of them
  pub completed_all : ToldAll → completed s (table_of s z) links twins rows (records_from 0 (pendings (pieces_of s)) ++ rest) (length (pieces_of s)) ≡ records_of s ++ rest
  unfolding completed records_of dones_of pieces_done
  completed_all told =
      let ps : List Piece = pieces_of s in
      let items : List ℕ = records_from 0 (pendings ps) ++ rest in
      let e : min (length ps) (length items / record_words) ≡ length ps =
      omega (arith, length-append (records_from 0 (pendings ps)) rest, records_length 0 (pendings ps), pieces_length (pendings ps), ap length (pieces_pending ps)) in
      ap (completed_from s (table_of s z) links twins rows items 0) e ∙ completed_rest told [] ps refl tt
