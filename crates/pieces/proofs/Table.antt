-- Records put into the item table one after the other, in the code's terms. Assumes nothing.
use mathlib.Core.Path.{◌≡◌, refl, sym, ap, ◌∙◌}
use mathlib.Core.List.{List, [], ◌∷◌, ◌++◌}
use Prim.Native.Nat.{ℕ, zero, suc, ◌+◌, ◌-◌, ◌*◌, ◌/◌, ◌^◌, ◌≤◌, ◌<◌, min}
use native.Mathlib.Nat.{zero-add, add-zero, suc-sub-suc, zero-sub, sub-zero}
use native.Mathlib.Numerals.{add-one, add-two, add-three, add-four, add_five, add_six, add_seven}
use native.Mathlib.Omega.{arith}
use borrow.Author.Tests.{eq-eqb, ne_eqb, lt-ltb, le-ltb}
use lib.Dec.{eqb}
use lib.ListN.{length, get_or, set, take, drop, replicate, length-replicate, length-append}
use lib.Seq.{sets, length-sets, sets-eq}
use Rattle.classes.proofs.Laws.{by_test}
use Rattle.places.specs.Sizes.{most_pieces}
use Rattle.pieces.specs.Columns as column
use Rattle.pieces.specs.Columns.{record_words}
use Rattle.pieces.specs.Cutting.{piece_size, cut}
use Rattle.pieces.specs.Kinds.{kinds_at, closes_piece, opens_piece, kind_pieces, is_heading, is_closing, has_name, claim_class, piece_class, word_constant, word_subtype}
use Rattle.places.specs.Kinds.{is_name}
use Rattle.places.specs.Places.{row_words, rows_in, kinds_of}
use Rattle.pieces.specs.Records.{name_of, pending_record, pending_records, pieces_in, recording, record_table}
use Rattle.pieces.specs.declared.PieceClass.{PieceClass}
use Rattle.std.specs.Prelude.{Ok, Err}
use Rattle.pieces.specs.declared.NotRecorded.TheVariants.{TooMany, TableShort}
use Rattle.places.proofs.Laws.{kinds_end}
use Rattle.pieces.proofs.Laws.{size_inside, first_piece}
use Rattle.pieces.proofs.Classing.{piece_length, behind_small}

pub name_none : (from place : ℕ) → place ≡ 0 → ◌≡◌ {A = ℕ} 0 (name_of from place)
unfolding name_of
name_none from place h = rw (eq-eqb place 0 h)

pub name_some : (from place : ℕ) → (place ≡ 0 → ⊥) → from + place ≡ name_of from place
unfolding name_of
name_some from place h = rw (ne_eqb place 0 h)

-- the eight stores of a record
pub stored : (t : List ℕ) (w from count name : ℕ) (m : PieceClass) → name ≡ name_of from m.place
    → set (set (set (set (set (set (set (set t w m.class) (w + column.first) from) (w + column.count) count) (w + column.name) name) (w + column.state) 0) (w + column.kind) 0) (w + column.low) 0) (w + column.high) 0
    ≡ sets t w (pending_record from count m)
unfolding pending_record
stored t w from count name m e = rw (e, add-one w, add-two w, add-three w, add-four w, add_five w, add_six w, add_seven w)

-- a place is at most 2
place_small : (p : List ℕ) → (piece_class p).place ≤ 2
unfolding piece_class claim_class
place_small p =
    by_test small (is_heading p) (λ _. omega arith)
    (λ _. by_test small (is_closing p) (λ _. by_test (λ (n : ℕ). n ≤ 2) (has_name p) (λ _. behind_small p) (λ _. omega arith))
    (λ _. by_test small (is_name (get_or p 1 0))
    (λ _. by_test small (eqb (get_or p 0 0) word_constant) (λ _. omega arith) (λ _. by_test small (eqb (get_or p 0 0) word_subtype) (λ _. omega arith) (λ _. omega arith)))
    (λ _. omega arith)))
  where
    small : PieceClass → Type 0
    small m = m.place ≤ 2

pub place_fits : (n from : ℕ) (t p : List ℕ) (m : PieceClass) → m ≡ piece_class p → row_words * n ≤ length t → length t < 2 ^ 64 → from < n → from + m.place < 2 ^ 64
place_fits n from t p m e h k l = omega (arith, place_small p, ap (λ (x : PieceClass). x.place) e)

sets_append : (t : List ℕ) (w : ℕ) (xs ys : List ℕ) → sets t w (xs ++ ys) ≡ sets (sets t w xs) (w + length xs) ys
sets_append t w [] ys = rw (add-zero w)
sets_append t w (x ∷ xs) ys = sets_append (set t w x) (suc w) xs ys ∙ ap (λ (k : ℕ). sets (sets (set t w x) (suc w) xs) k ys) (omega arith)

record_length : (at count : ℕ) (m : PieceClass) → length (pending_record at count m) ≡ record_words
unfolding pending_record
record_length at count m = refl

pub records_length : (at : ℕ) (ps : List (List ℕ)) → length (pending_records at ps) ≡ record_words * length ps
unfolding pending_records
records_length at [] = refl
records_length at (p ∷ ps) =
    omega (arith, length-append (pending_record at (length p) (piece_class p)) (pending_records (at + length p) ps), record_length at (length p) (piece_class p), records_length (at + length p) ps)

-- the turns of `write_records`
module _ (n : ℕ) (t : List ℕ) (from r : ℕ) (e : r ≡ piece_size closes_piece opens_piece (drop from (kinds_of n t))) (l : from < n) where
  abbrev Rest : List (List ℕ)
  Rest = kind_pieces (drop (from + r) (kinds_of n t))

  opened : pending_records from (kind_pieces (drop from (kinds_of n t))) ≡ pending_record from r (piece_class (kinds_at n t from r)) ++ pending_records (from + r) Rest
  unfolding pending_records kinds_at
  opened =
      rw (first_piece n t from r e l)
      (ap (λ (k : ℕ). pending_record from k (piece_class (take r (drop from (kinds_of n t)))) ++ pending_records (from + k) Rest) (long))
    where
      long : length (take r (drop from (kinds_of n t))) ≡ r
      long = piece_length n t from r (size_inside n t from r e l)

  pub record_turn : (items items' whole : List ℕ) (w : ℕ) (m : PieceClass) → m ≡ piece_class (kinds_at n t from r) → items' ≡ sets items w (pending_record from r m)
      → sets items w (pending_records from (kind_pieces (drop from (kinds_of n t)))) ≡ whole → sets items' (w + record_words) (pending_records (from + r) Rest) ≡ whole
  record_turn items items' whole w m p q h =
      ap (λ (u : List ℕ). sets u (w + record_words) (pending_records (from + r) Rest)) (q ∙ ap (λ (x : PieceClass). sets items w (pending_record from r x)) p)
      ∙ ap (λ (k : ℕ). sets (sets items w (pending_record from r (piece_class (kinds_at n t from r)))) (w + k) (pending_records (from + r) Rest)) (sym (record_length from r (piece_class (kinds_at n t from r))))
      ∙ sym (sets_append items w (pending_record from r (piece_class (kinds_at n t from r))) (pending_records (from + r) Rest))
      ∙ ap (sets items w) (sym opened)
      ∙ h

  pub room_here : (items : List ℕ) (w : ℕ) → w + record_words * length (kind_pieces (drop from (kinds_of n t))) ≤ length items → w + record_words ≤ length items
  room_here items w h = omega (arith, ap length (first_piece n t from r e l))

  pub room_turn : (items items' : List ℕ) (w : ℕ) (m : PieceClass) → items' ≡ sets items w (pending_record from r m)
      → w + record_words * length (kind_pieces (drop from (kinds_of n t))) ≤ length items → w + record_words + record_words * length Rest ≤ length items'
  room_turn items items' w m q h = omega (arith, ap length (first_piece n t from r e l), ap length q ∙ length-sets items w (pending_record from r m))

  pub length_turn : (items items' : List ℕ) (w k : ℕ) (m : PieceClass) → items' ≡ sets items w (pending_record from r m) → length items ≡ k → length items' ≡ k
  length_turn items items' w k m q h = ap length q ∙ length-sets items w (pending_record from r m) ∙ h

pub records_end : (n : ℕ) (t : List ℕ) (items whole : List ℕ) (w at : ℕ) → sets items w (pending_records at (kind_pieces (drop at (kinds_of n t)))) ≡ whole → n ≤ at → items ≡ whole
unfolding pending_records cut
records_end n t items whole w at h l = rw (kinds_end t n at l) at h

-- the whole table
all_there : (xs : List ℕ) (words : ℕ) → length xs ≤ words → sets (replicate words 0) 0 xs ≡ xs ++ replicate (words - length xs) 0
all_there xs words h =
    sets-eq xs (replicate words 0) 0 (rw (zero-add (length xs), length-replicate {A = ℕ} words 0) h)
    ∙ ap (λ (k : ℕ). xs ++ drop k (replicate {A = ℕ} words 0)) (zero-add (length xs))
    ∙ ap (λ (u : List ℕ). xs ++ u) (drop_zeros words (length xs))
  where
    drop_zeros : (words k : ℕ) → ◌≡◌ {A = List ℕ} (drop k (replicate words 0)) (replicate (words - k) 0)
    drop_zeros zero zero = refl
    drop_zeros zero (suc k) = rw (zero-sub (suc k))
    drop_zeros (suc w) zero = rw (sub-zero (suc w))
    drop_zeros (suc w) (suc k) = rw (suc-sub-suc w k) (drop_zeros w k)

-- the answers, and the table with each
module _ (table : List ℕ) (count rows n words c : ℕ) (d : rows ≡ rows_in table) (e : n ≡ min count rows) (p : c ≡ length (kind_pieces (kinds_of n table))) where
  whole : pieces_in table count ≡ kind_pieces (kinds_of n table)
  unfolding pieces_in
  whole = rw (← d, ← e)

  pub too_many : most_pieces < c → Err TooMany ≡ recording (length (pieces_in table count)) words
  unfolding recording
  too_many h = rw (whole, ← p, lt-ltb most_pieces c h)

  pub too_short : c ≤ most_pieces → words / record_words < c → Err (TableShort (words / record_words)) ≡ recording (length (pieces_in table count)) words
  unfolding recording
  too_short h k = rw (whole, ← p, le-ltb most_pieces c h, lt-ltb (words / record_words) c k)

  pub marked : c ≤ most_pieces → c ≤ words / record_words → Ok c ≡ recording (length (pieces_in table count)) words
  unfolding recording
  marked h k = rw (whole, ← p, le-ltb most_pieces c h, le-ltb (words / record_words) c k)

  pub table_many : (u : List ℕ) → most_pieces < c → u ≡ replicate words 0 → u ≡ record_table (pieces_in table count) words
  unfolding record_table
  table_many u h z = rw (← too_many h) z

  pub table_short_lem : (u : List ℕ) → c ≤ most_pieces → words / record_words < c → u ≡ replicate words 0 → u ≡ record_table (pieces_in table count) words
  unfolding record_table
  table_short_lem u h k z = rw (← too_short h k) z

  pub table_marked : (u v : List ℕ) → c ≤ most_pieces → c ≤ words / record_words → v ≡ replicate words 0 → u ≡ sets v 0 (pending_records 0 (kind_pieces (kinds_of n table)))
      → u ≡ record_table (pieces_in table count) words
  unfolding record_table
  table_marked u v h k z o =
      rw (← marked h k, whole) (o ∙ ap (λ (x : List ℕ). sets x 0 (pending_records 0 (kind_pieces (kinds_of n table)))) z ∙ all_there (pending_records 0 (kind_pieces (kinds_of n table))) words (omega (arith, records_length 0 (kind_pieces (kinds_of n table)))))
