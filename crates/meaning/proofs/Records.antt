-- The words of the item table, record by record: pieces that are done, pieces that wait, and zeros. Assumes nothing.
use mathlib.Core.Path.{◌≡◌, refl, sym, ap, ap₂, ◌∙◌}
use mathlib.Core.Bool.{Bool, true, false, cond, ◌&&◌}
use mathlib.Core.List.{List, [], ◌∷◌, ◌++◌, append_assoc}
use Prim.Native.Nat.{ℕ, zero, suc, ◌+◌, ◌-◌, ◌*◌, ◌/◌, ◌≤◌, ◌<◌}
use native.Mathlib.Nat.{add-zero, add_assoc}
use native.Mathlib.Omega.{arith}
use borrow.Author.Tests.{lt-ltb}
use lib.Dec.{ltb}
use lib.ListN.{length, get_or, set, replicate, length-append}
use lib.Seq.{sets}
use Rattle.pieces.specs.Kinds.{piece_class}
use Rattle.pieces.specs.Records as marks
use Rattle.records.specs.Records.{word_at, is_item}
use Rattle.values.specs.declared.Value.{Value}
use Rattle.values.specs.declared.Value.TheVariants.{Without}
use Rattle.values.specs.ValueWords.{value_words}
use Rattle.pieces.specs.Columns.{record_words}
use Rattle.pieces.specs.Columns as column
use Rattle.meaning.specs.Elements.{Piece}
use Rattle.meaning.specs.Pieces.{kinds_in_piece, class_of}
use Rattle.meaning.proofs.Cutting.{kinds_each, total, kinds_length}
use Rattle.meaning.specs.Names.{Done}
use Rattle.meaning.specs.Records.{item_value_words, record_of, records_from}
use Rattle.laws.proofs.Laws.{zeros_at}

-- a piece that waits: the four last words of its record are zeros
abbrev pub pending : Piece → Done
pending p = record { piece = p; value = Without 0 }

unfoldable pub pendings : List Piece → List Done
pendings [] = []
pendings (p ∷ ps) = pending p ∷ pendings ps

unfoldable pub pieces_done : List Done → List Piece
pieces_done [] = []
pieces_done (d ∷ ds) = d.piece ∷ pieces_done ds

pub pieces_pending : (ps : List Piece) → pieces_done (pendings ps) ≡ ps
unfolding pieces_done pendings
pieces_pending [] = refl
pieces_pending (p ∷ ps) = ap (λ (qs : List Piece). p ∷ qs) (pieces_pending ps)

pub pieces_append : (ds es : List Done) → pieces_done (ds ++ es) ≡ pieces_done ds ++ pieces_done es
unfolding pieces_done
pieces_append [] es = refl
pieces_append (d ∷ ds) es = ap (λ (qs : List Piece). d.piece ∷ qs) (pieces_append ds es)

pub pieces_length : (ds : List Done) → length (pieces_done ds) ≡ length ds
unfolding pieces_done
pieces_length [] = refl
pieces_length (d ∷ ds) = ap suc (pieces_length ds)

words_four : (b : Bool) (v : Value) → length (item_value_words b v) ≡ 4
words_four true v = refl
words_four false v = refl

pub record_length : (from : ℕ) (d : Done) → length (record_of from d) ≡ record_words
unfolding record_of
record_length from d = omega (arith, words_four (is_item (piece_class (kinds_in_piece d.piece)).class) d.value)

pub records_length : (from : ℕ) (ds : List Done) → length (records_from from ds) ≡ record_words * length ds
unfolding records_from
records_length from [] = refl
records_length from (d ∷ ds) =
    omega (arith, length-append (record_of from d) (records_from (from + length d.piece) ds), record_length from d, records_length (from + length d.piece) ds)

pub records_append : (from : ℕ) (ds es : List Done) → records_from from (ds ++ es) ≡ records_from from ds ++ records_from (from + total (pieces_done ds)) es
unfolding records_from pieces_done total
records_append from [] es = ap (λ (n : ℕ). records_from n es) (sym (add-zero from))
records_append from (d ∷ ds) es =
    ap (λ (l : List ℕ). record_of from d ++ l)
    (records_append (from + length d.piece) ds es ∙ ap (λ (n : ℕ). records_from (from + length d.piece) ds ++ records_from n es) (add_assoc from (length d.piece) (total (pieces_done ds))))
    ∙ sym (append_assoc (record_of from d) (records_from (from + length d.piece) ds) (records_from (from + (length d.piece + total (pieces_done ds))) es))

get_d_front : (l m : List ℕ) (i : ℕ) → i < length l → get_or (l ++ m) i 0 ≡ get_or l i 0
get_d_front [] m i h = absurd (omega arith)
get_d_front (x ∷ l) m zero h = refl
get_d_front (x ∷ l) m (suc i) h = get_d_front l m i (omega arith)

get_d_behind : (l m : List ℕ) (i k : ℕ) → k ≡ length l + i → get_or (l ++ m) k 0 ≡ get_or m i 0
get_d_behind [] m i k e = let z : k ≡ i = omega arith in ap (λ (n : ℕ). get_or m n 0) z
get_d_behind (x ∷ l) m i zero e = absurd (omega arith)
get_d_behind (x ∷ l) m i (suc k) e = get_d_behind l m i k (omega arith)

-- the table split at a record
split : (ds es : List Done) (d : Done) (rest : List ℕ) → records_from 0 (ds ++ d ∷ es) ++ rest
    ≡ records_from 0 ds ++ (record_of (0 + total (pieces_done ds)) d ++ (records_from (0 + total (pieces_done ds) + length d.piece) es ++ rest))
unfolding records_from
split ds es d rest =
    ap (λ (l : List ℕ). l ++ rest) (records_append 0 ds (d ∷ es))
    ∙ append_assoc (records_from 0 ds) (record_of (0 + total (pieces_done ds)) d ++ records_from (0 + total (pieces_done ds) + length d.piece) es) rest
    ∙ ap (λ (l : List ℕ). records_from 0 ds ++ l) (append_assoc (record_of (0 + total (pieces_done ds)) d) (records_from (0 + total (pieces_done ds) + length d.piece) es) rest)

-- word j of the record of a piece
pub word_at_record : (ds es : List Done) (d : Done) (rest : List ℕ) (j : ℕ) → j ≤ 7
    → word_at (records_from 0 (ds ++ d ∷ es) ++ rest) (length ds) j ≡ get_or (record_of (total (pieces_done ds)) d) j 0
unfolding word_at
word_at_record ds es d rest j h =
    let a : record_words * length ds + record_words ≤ length (records_from 0 (ds ++ d ∷ es) ++ rest) = omega (arith, ap length (split ds es d rest), length-append (records_from 0 ds) (record_of (0 + total (pieces_done ds)) d ++ (records_from (0 + total (pieces_done ds) + length d.piece) es ++ rest)), length-append (record_of (0 + total (pieces_done ds)) d) (records_from (0 + total (pieces_done ds) + length d.piece) es ++ rest), records_length 0 ds, record_length (0 + total (pieces_done ds)) d) in
    let z : 0 + total (pieces_done ds) ≡ total (pieces_done ds) = omega arith in
    rw (lt-ltb j record_words (omega arith), lt-ltb (length ds) (length (records_from 0 (ds ++ d ∷ es) ++ rest) / record_words) (omega arith))
    (ap (λ (l : List ℕ). get_or l (record_words * length ds + j) 0) (split ds es d rest)
    ∙ get_d_behind (records_from 0 ds) (record_of (0 + total (pieces_done ds)) d ++ (records_from (0 + total (pieces_done ds) + length d.piece) es ++ rest)) j (record_words * length ds + j) (omega (arith, records_length 0 ds))
    ∙ get_d_front (record_of (0 + total (pieces_done ds)) d) (records_from (0 + total (pieces_done ds) + length d.piece) es ++ rest) j (omega (arith, record_length (0 + total (pieces_done ds)) d))
    ∙ ap (λ (n : ℕ). get_or (record_of n d) j 0) z)

-- past the last record there are zeros
pub word_past : (ds : List Done) (y i j : ℕ) → length ds ≤ i → word_at (records_from 0 ds ++ replicate y 0) i j ≡ 0
unfolding word_at
word_past ds y i j h = go (ltb j record_words && ltb i (length (records_from 0 ds ++ replicate y 0) / record_words))
  where
    go : (b : Bool) → cond b (get_or (records_from 0 ds ++ replicate y 0) (record_words * i + j) 0) 0 ≡ 0
    go true =
        let e : record_words * i + j ≡ length (records_from 0 ds) + (record_words * i + j - record_words * length ds) = omega (arith, records_length 0 ds) in
        get_d_behind (records_from 0 ds) (replicate y 0) (record_words * i + j - record_words * length ds) (record_words * i + j) e ∙ zeros_at y (record_words * i + j - record_words * length ds)
    go false = refl

-- what marking the pieces leaves
pub marked_records : (from : ℕ) (ps : List Piece) → marks.pending_records from (kinds_each ps) ≡ records_from from (pendings ps)
unfolding marks.pending_records marks.pending_record records_from record_of pendings kinds_each
marked_records from [] = refl
marked_records from (p ∷ ps) =
    ap (λ (n : ℕ). ((piece_class (kinds_in_piece p)).class ∷ from ∷ n ∷ marks.name_of from (piece_class (kinds_in_piece p)).place ∷ 0 ∷ 0 ∷ 0 ∷ 0 ∷ []) ++ marks.pending_records (from + n) (kinds_each ps)) (kinds_length p)
    ∙ ap₂ (λ (a b : List ℕ). ((piece_class (kinds_in_piece p)).class ∷ from ∷ length p ∷ marks.name_of from (piece_class (kinds_in_piece p)).place ∷ a) ++ b) (waits (is_item (piece_class (kinds_in_piece p)).class)) (marked_records (from + length p) ps)
  where
    waits : (b : Bool) → ◌≡◌ {A = List ℕ} (0 ∷ 0 ∷ 0 ∷ 0 ∷ []) (item_value_words b (Without 0))
    waits true = refl
    waits false = refl

-- a piece that waited, done
module _ (ds es : List Done) (p : Piece) (v : Value) (rest : List ℕ) where
  abbrev done : Done
  done = record { piece = p; value = v }

  pub skip_record : is_item (class_of p) ≡ false → records_from 0 (ds ++ pending p ∷ es) ++ rest ≡ records_from 0 (ds ++ done ∷ es) ++ rest
  unfolding record_of
  skip_record h =
      split ds es (pending p) rest
      ∙ ap (λ (l : List ℕ). records_from 0 ds ++ (l ++ (records_from (0 + total (pieces_done ds) + length p) es ++ rest))) (same (is_item (class_of p)) h)
      ∙ sym (split ds es done rest)
    where
      same : (b : Bool) → b ≡ false
          → ◌≡◌ {A = List ℕ} (class_of p ∷ (0 + total (pieces_done ds)) ∷ length p ∷ marks.name_of (0 + total (pieces_done ds)) (piece_class (kinds_in_piece p)).place ∷ item_value_words b (Without 0))
          (class_of p ∷ (0 + total (pieces_done ds)) ∷ length p ∷ marks.name_of (0 + total (pieces_done ds)) (piece_class (kinds_in_piece p)).place ∷ item_value_words b v)
      same true e = let z : ◌≡◌ {A = ℕ} 0 1 = cc in absurd (omega arith)
      same false e = refl

  sets_behind : (l m vs : List ℕ) (i k : ℕ) → k ≡ length l + i → sets (l ++ m) k vs ≡ l ++ sets m i vs
  sets_behind l m [] i k e = refl
  sets_behind l m (w ∷ vs) i k e =
      ap (λ (n : List ℕ). sets n (suc k) vs) (set_behind l m i k w e) ∙ sets_behind l (set m i w) vs (suc i) (suc k) (omega arith)
    where
      set_behind : (l m : List ℕ) (i k w : ℕ) → k ≡ length l + i → set (l ++ m) k w ≡ l ++ set m i w
      set_behind [] m i k w e = let z : k ≡ i = omega arith in ap (λ (n : ℕ). set m n w) z
      set_behind (x ∷ l) m i zero w e = absurd (omega arith)
      set_behind (x ∷ l) m i (suc k) w e = ap (λ (n : List ℕ). x ∷ n) (set_behind l m i k w (omega arith))

  pub complete_record : is_item (class_of p) ≡ true → sets (records_from 0 (ds ++ pending p ∷ es) ++ rest) (record_words * length ds + column.state) (value_words v) ≡ records_from 0 (ds ++ done ∷ es) ++ rest
  unfolding record_of
  complete_record h =
      ap (λ (l : List ℕ). sets l (record_words * length ds + column.state) (value_words v)) (split ds es (pending p) rest)
      ∙ sets_behind (records_from 0 ds) (record_of (0 + total (pieces_done ds)) (pending p) ++ (records_from (0 + total (pieces_done ds) + length p) es ++ rest)) (value_words v) 4 (record_words * length ds + column.state) (omega (arith, records_length 0 ds))
      ∙ ap (λ (l : List ℕ). records_from 0 ds ++ l) (filled (is_item (class_of p)) h (records_from (0 + total (pieces_done ds) + length p) es ++ rest))
      ∙ sym (split ds es done rest)
    where
      filled : (b : Bool) → b ≡ true → (l : List ℕ)
          → ◌≡◌ {A = List ℕ} (sets ((class_of p ∷ (0 + total (pieces_done ds)) ∷ length p ∷ marks.name_of (0 + total (pieces_done ds)) (piece_class (kinds_in_piece p)).place ∷ item_value_words b (Without 0)) ++ l) 4 (value_words v))
          ((class_of p ∷ (0 + total (pieces_done ds)) ∷ length p ∷ marks.name_of (0 + total (pieces_done ds)) (piece_class (kinds_in_piece p)).place ∷ item_value_words b v) ++ l)
      filled true e l = refl
      filled false e l = let z : ◌≡◌ {A = ℕ} 0 1 = cc in absurd (omega arith)
