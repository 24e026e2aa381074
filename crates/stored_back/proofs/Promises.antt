-- The promises of specs/Promises.antt, proved. Assumes nothing.
use Rattle.std.specs.Prelude.{Ok, Err}
use Prim.Native.Nat.{ℕ, ◌+◌, ◌-◌, ◌*◌, ◌≤◌, ◌<◌}
use mathlib.Core.Path.{◌≡◌, refl, sym, ap, subst, ◌∙◌}
use mathlib.Core.Bool.{true, ◌&&◌}
use mathlib.Core.List.{List, [], ◌∷◌, ◌++◌}
use native.Mathlib.Omega.{arith}
use lib.Dec.{eqb}
use lib.ListN.{length, get_or, take, replicate}
use lib.Seq.{take_at}
use Rattle.laws.proofs.Laws.{both_left, both_right}
use Rattle.places.specs.Kinds.{is_name}
use Rattle.pieces.specs.Kinds.{is_heading}
use Rattle.meaning.specs.Elements.{Piece, at}
use Rattle.meaning.specs.Pieces.{kinds_in_piece, pieces_of, class_of}
use Rattle.meaning.specs.Names.{Done}
use Rattle.meaning.specs.Meaning.{Come}
use Rattle.meaning.specs.Together.{piece_at, name_place, AllFold, IsWhole}
use Rattle.meaning.specs.code.PieceValues.{dones_from}
use Rattle.meaning.proofs.Records.{pieces_done}
use Rattle.meaning.proofs.Begun.{kinds_at_lem}
use Rattle.meaning.proofs.Comes.{come_exactly}
use Rattle.meaning.proofs.Good.{Good}
use Rattle.meaning.proofs.Uses.{claim_item}
use Rattle.stored.specs.StoredItems.{StoredItem}
use Rattle.stored.specs.LegalNames.{legal_name}
use Rattle.stored.specs.Stored as stored
use Rattle.stored.specs.Stored.{form_one}
use Rattle.stored_reading.specs.StoredRows.{head_size, stored_rows_from}
use Rattle.stored_reading.specs.StoredRows as rows
use Rattle.stored_reading.specs.Permitted.{stored_rows_in}
use Rattle.stored_reading.specs.Permitted as reading
use Rattle.stored_reading.specs.declared.StoredRefusal.TheVariants.{ItemsShort}
use Rattle.stored_reading.specs.Permitted.{StoredReading}
use Rattle.stored_reading.specs.Permitted.{read_table}
use Rattle.stored_reading.proofs.Promises.{no_choice, names_stand}
use Rattle.storing.specs.SurveyItems.{package_name, stored_items, survey_bytes}
use Rattle.storing.specs.Given.{Surveyed}
use Rattle.storing.proofs.Held.{dones_pieces, good_from, heading_is}
use Rattle.storing.proofs.Promises.{lengths_suffice, items_few, numbers_sized}
use Rattle.names_alone.proofs.Promises.{names_alone}
use Rattle.stored_back.specs.Shown.{survey_shows, rows_show, GivesBack}
use Rattle.stored_back.specs.Promises.{StoresTable, ReadsBack}
use Rattle.stored_back.proofs.Names.{stored_legal}
use Rattle.stored_back.proofs.Different.{AllFine, fine_from, all_distinct, all_legal_lem}
use Rattle.stored_back.proofs.Rows.{rows_show_lem, AllKept, items_show_lem, shown_count}

-- ---- what is stored is a stored table

heading_named : (ks : List ℕ) → is_heading ks ≡ true → is_name (get_or ks 1 0) ≡ true
unfolding is_heading
heading_named ks h =
    both_right (eqb (get_or ks 0 0) 98) (is_name (get_or ks 1 0))
    (both_left (eqb (get_or ks 0 0) 98 && is_name (get_or ks 1 0)) (eqb (get_or ks 2 0) 78)
    (both_right (eqb (length ks) 3) ((eqb (get_or ks 0 0) 98 && is_name (get_or ks 1 0)) && eqb (get_or ks 2 0) 78) h))

module _ (s : List ℕ) (ds : List Done) (come : Come (pieces_of s) [] (pieces_of s) ds) (whole : IsWhole (pieces_of s) ds) where
  are : ds ≡ dones_from (pieces_of s) [] (pieces_of s)
  are = (come_exactly (pieces_of s) [] (pieces_of s) ds).0 come

  cuts : pieces_of s ≡ [] ++ pieces_done ds
  cuts = sym (ap pieces_done are ∙ dones_pieces (pieces_of s) [] (pieces_of s))

  fine : AllFine (pieces_of s) ds
  fine =
      subst (AllFine (pieces_of s)) (sym are)
      (fine_from (pieces_of s) [] (pieces_of s) (λ i. names_alone s i 1) (subst AllFold are whole.1))

  titled : legal_name (package_name (pieces_of s)) ≡ true
  unfolding package_name
  titled =
      let p : Piece = piece_at (pieces_of s) 0 in
      let h = heading_is (kinds_in_piece p) whole.0.first in
      let n : is_name (at p (name_place p)).kind ≡ true = ap (λ (i : ℕ). is_name (at p i).kind) h.1 ∙ ap is_name (sym (kinds_at_lem p 1)) ∙ heading_named (kinds_in_piece p) h.0 in
      stored_legal (at p (name_place p)) (names_alone s 0 (name_place p)) n

  kept : AllKept ds
  kept = go ds (subst (Good (pieces_of s)) (sym are) (good_from (pieces_of s) [] (pieces_of s) tt)) whole.1
    where
      go : (es : List Done) → Good (pieces_of s) es → AllFold es → AllKept es
      go [] g f = tt
      go (d ∷ es) g f = ((λ h. ((g.0 h).0, f.0 (claim_item (class_of d.piece) h))), go es g.1 f.1)

pub stores_table : StoresTable
unfolding form_one
stores_table s e i ds d w = record {
  bytes = refl;
  legal = record {
    titled = titled s ds d.come w;
    each = all_legal_lem (pieces_of s) [] ds (cuts s ds d.come w) (fine s ds d.come w) (numbers_sized s e i ds d);
    few = items_few s e i ds d;
    different = all_distinct (pieces_of s) [] ds (cuts s ds d.come w) (fine s ds d.come w);
    written = lengths_suffice s e i ds d w;
  };
}

-- ---- reading gives it back

module _ (s n : List ℕ) (is : List StoredItem) (h : stored.Stored form_one s n is) (words : ℕ) (answer : StoredReading) (table : List ℕ) (p : reading.Permitted s words answer table) where
  room : length is ≤ stored_rows_in words → (answer ≡ read_table (record { 0 = head_size }) (length n) (length is)) × (table ≡ stored_rows_from (head_size + length n) is ++ replicate (words - rows.stored_row_words * length is) 0)
  room l =
      no_choice s words answer (read_table (record { 0 = head_size }) (length n) (length is)) table (stored_rows_from (head_size + length n) is ++ replicate (words - rows.stored_row_words * length is) 0) p
      (record { name = n; items = is; stored = h; room = l; first_is = refl; size_is = refl; count_is = refl; rows_are = refl })

  short : stored_rows_in words < length is → (answer ≡ Err (ItemsShort (stored_rows_in words))) × (table ≡ replicate words 0)
  short l =
      no_choice s words answer (Err (ItemsShort (stored_rows_in words))) table (replicate words 0) p
      (record { name = n; items = is; stored = h; short = l; rows_are = refl }, refl)

back : (s n : List ℕ) (ds : List Done) → AllKept ds → stored.Stored form_one s n (stored_items ds) → (words : ℕ) (answer : StoredReading) (table : List ℕ) → reading.Permitted s words answer table
    → (length (survey_shows ds) ≤ stored_rows_in words → GivesBack s answer table n (survey_shows ds))
    × (stored_rows_in words < length (survey_shows ds) → (answer ≡ Err (ItemsShort (stored_rows_in words))) × (table ≡ replicate words 0))
back s n ds k h words answer table p = (
  (λ l. let q = room s n (stored_items ds) h words answer table p (omega (arith, shown_count ds k)) in
      record {
        first = record { 0 = head_size };
        size = length n;
        count = length (stored_items ds);
        read = q.0;
        named = (names_stand s n (stored_items ds) h).0;
        counted = sym (shown_count ds k);
        shown =
            ap (λ (t : List ℕ). rows_show s t (length (stored_items ds))) q.1
            ∙ rows_show_lem s (stored_items ds) (head_size + length n) (replicate (words - rows.stored_row_words * length (stored_items ds)) 0) (names_stand s n (stored_items ds) h).1 ∙ items_show_lem ds k;
      }),
  λ l. short s n (stored_items ds) h words answer table p (omega (arith, shown_count ds k)),
)

pub reads_back : ReadsBack
reads_back s ds come e i o n t u out k words answer table p =
    let same : k.dones ≡ ds = (come_exactly (pieces_of s) [] (pieces_of s) k.dones).0 k.surveyed.come ∙ sym ((come_exactly (pieces_of s) [] (pieces_of s) ds).0 come) in
    let bytes : take n out ≡ survey_bytes s ds =
    ap (take n) k.out_is ∙ take_at (survey_bytes s k.dones) (replicate (o - n) 0) n (sym k.size) ∙ ap (survey_bytes s) same in
    let w : IsWhole (pieces_of s) ds = subst (IsWhole (pieces_of s)) same k.whole in
    let d : Surveyed s e i ds = subst (Surveyed s e i) same k.surveyed in
    back (take n out) (package_name (pieces_of s)) ds (kept s ds come w)
    (subst (λ (b : List ℕ). stored.Stored form_one b (package_name (pieces_of s)) (stored_items ds)) (sym bytes) (stores_table s e i ds d w)) words answer table p
