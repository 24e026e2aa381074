-- What is told of names at each piece, and that a pair does not depend on what pieces come to: so the survey's steps over a text's own tables
-- are the survey of the text. Assumes nothing.
use mathlib.Core.Path.{◌≡◌, refl, sym, ap, ◌∙◌}
use mathlib.Core.List.{List, [], ◌∷◌, ◌++◌}
use Prim.Native.Nat.{ℕ, ◌-◌, ◌*◌, ◌≤◌}
use lib.ListN.{length, replicate}
use Rattle.element_reading.specs.Rows.{rows_of}
use Rattle.names.specs.code.Names.{shared_pair}
use Rattle.names.specs.code.Links.{links_table, twins_table}
use Rattle.meaning.specs.Elements.{Piece}
use Rattle.meaning.specs.Pieces.{pieces_of}
use Rattle.meaning.specs.Names.{Done, own_doubled}
use Rattle.meaning.specs.code.PieceValues.{done_of, dones_from, dones_of, records_of}
use Rattle.meaning.proofs.Records.{pendings, pieces_done, pieces_pending, pieces_length}
use Rattle.meaning.proofs.Words.{piece_at, pieces_waiting}
use Rattle.meaning.proofs.Words as held
use Rattle.meaning.proofs.Places.{table_of}
use Rattle.meaning.proofs.Doubles.{doubled_in_lem, pair_same}
use Rattle.meaning.proofs.Uses.{use_linked}
use Rattle.meaning.proofs.Stages.{ToldAll}
use Rattle.pieces.specs.Columns.{record_words}
use Rattle.survey_reading.specs.code.Survey.{item_table}

-- the piece after those done
next_piece : (ds : List Done) (p : Piece) (after ps : List Piece) → pieces_done ds ++ p ∷ after ≡ ps → piece_at ps (length ds) ≡ p
next_piece ds p after ps e = ap (λ (l : List Piece). piece_at l (length ds)) (sym e) ∙ ap (piece_at (pieces_done ds ++ p ∷ after)) (sym (pieces_length ds)) ∙ here (pieces_done ds)
  where
    here : (qs : List Piece) → piece_at (qs ++ p ∷ after) (length qs) ≡ p
    here [] = refl
    here (q ∷ qs) = here qs

pub dones_pieces : (all : List Piece) (above : List Done) (ps : List Piece) → pieces_done (dones_from all above ps) ≡ ps
unfolding pieces_done dones_from
dones_pieces all above [] = refl
dones_pieces all above (p ∷ ps) = ap (λ (l : List Piece). p ∷ l) (dones_pieces all (above ++ done_of all above p ∷ []) ps)

module _ (s : List ℕ) (z : ℕ) (y : ℕ) (few : length (pieces_of s) ≤ 1024) (small : length (rows_of s) ≤ 8192) where
  abbrev waiting : List ℕ
  waiting = held.item_table (pendings (pieces_of s)) y

  pub told_all : ToldAll s z (links_table s (table_of s z) (length (rows_of s)) waiting 8192) (twins_table s (table_of s z) waiting 1024) (replicate y 0) (length (rows_of s)) refl small
  unfolding pendings
  told_all ds p after split good =
      let cuts : pieces_done (ds ++ pendings (p ∷ after)) ≡ pieces_of s = pieces_waiting ds (p ∷ after) (pieces_of s) split in (
        (λ e. use_linked s z y ds (pendings (p ∷ after)) cuts few (pendings (pieces_of s)) y (pieces_pending (pieces_of s)) (length (rows_of s)) refl small good e),
        doubled_in_lem s z y (pendings (pieces_of s)) (pieces_pending (pieces_of s)) few (ds ++ pendings (p ∷ after)) y cuts (length ds)
            ∙ ap (own_doubled (pieces_of s)) (next_piece ds p after (pieces_of s) split),
      )

pub pairs_same : (s : List ℕ) (z words n : ℕ)
    → shared_pair s (table_of s z) (held.item_table (pendings (pieces_of s)) (words - record_words * length (pieces_of s))) n ≡ shared_pair s (table_of s z) (item_table s words) n
unfolding item_table records_of dones_of
pairs_same s z words n =
    pair_same (pendings (pieces_of s)) (dones_from (pieces_of s) [] (pieces_of s)) (words - record_words * length (pieces_of s)) (words - record_words * length (pieces_of s))
    (pieces_pending (pieces_of s) ∙ sym (dones_pieces (pieces_of s) [] (pieces_of s))) s (table_of s z) n
