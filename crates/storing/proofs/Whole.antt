-- What the code puts of a whole survey is the stored table of its items, and each way through storing is permitted. Assumes nothing.
use Rattle.std.specs.Prelude.{Option, Some, None, Ok, Err, IsErrAnd}
use mathlib.Core.Path.{◌≡◌, refl, sym, ap, ap₂, subst, ◌∙◌}
use mathlib.Core.Bool.{Bool, true, false, cond, not, true≢false, false≢true}
use mathlib.Core.List.{List, [], ◌∷◌, ◌++◌, map}
use Prim.Native.Nat.{ℕ, zero, suc, ◌-◌, ◌*◌, ◌≤◌, ◌<◌}
use native.Mathlib.Omega.{arith}
use borrow.Author.Tests.{lt-ltb}
use lib.Dec.{eqb}
use lib.ListN.{length, get_or, replicate, length-append, length-replicate}
use Rattle.puts.specs.Puts.{Wrote}
use Rattle.refusals.specs.declared.SurveyRefusal.{SurveyRefusal}
use Rattle.records.specs.Records.{is_claim}
use Rattle.element_reading.specs.Rows.{rows_of}
use Rattle.stored.specs.Fields.{fields_bytes, writable, all_writable}
use Rattle.stored.specs.StoredItems.{StoredItem, item_field, name_field, value_bytes, value_size, tag_of}
use Rattle.stored.specs.Stored.{stored_fields, stored_bytes, form_one}
use Rattle.stored.specs.declared.StoredValue.{StoredValue}
use Rattle.stored.specs.declared.StoredValue.TheVariants as kept
use Rattle.stored_writing.specs.Written.{field_put, fields_put}
use Rattle.stored_writing.proofs.Puts.{value_length, small_size, stored_length, put_length, written_field, fields_put_lem, filled}
use Rattle.meaning.specs.Elements.{Element, Piece, at}
use Rattle.meaning.specs.Pieces.{kinds_in_piece, pieces_of, class_of}
use Rattle.meaning.specs.Names.{own_name, names_claimed, Done}
use Rattle.meaning.specs.Meaning.{Come}
use Rattle.pieces.specs.Kinds.{is_heading}
use Rattle.meaning.specs.Together.{GoodFrame, name_place}
use Rattle.meaning.specs.code.PieceValues.{dones_from}
use Rattle.meaning.proofs.Begun.{names_by_class}
use Rattle.meaning.proofs.Cutting.{kinds_length}
use Rattle.meaning.proofs.Records.{pieces_done, pieces_length}
use Rattle.meaning.proofs.Words.{piece_at, done_at, item_table, items_length}
use Rattle.meaning.proofs.Claims.{piece_is}
use Rattle.meaning.proofs.Places.{table_of, table_length}
use Rattle.meaning.proofs.Comes.{come_exactly}
use Rattle.meaning.proofs.Good.{Good}
use Rattle.survey_reading.specs.Permitted.{Finished}
use Rattle.survey_reading.specs.Permitted as survey
use Rattle.std.specs.Prelude.{Result, Ok, Err}
use Rattle.survey_reading.specs.declared.Summary.{Summary}
use Rattle.storing.specs.SurveyItems.{stored_name, items_named, stored_value, stored_items, package_name, survey_bytes}
use Rattle.storing.specs.Given.{Surveyed, Given, of_survey, not_whole, output_short}
use Rattle.storing.specs.Permitted.{Permitted}
use Rattle.storing.specs.Refusals.{Storing}
use Rattle.storing.specs.declared.StoringRefusal.{StoringRefusal}
use Rattle.storing.specs.declared.StoringRefusal.TheVariants as refusal
use Rattle.storing.specs.code.Tables.{items_of_records, put_items, size_items, package_at, put_table, size_table}
use Rattle.storing.proofs.Held.{dones_pieces, good_from, all_items, heading_is, heading_parts, package_is}
use Rattle.storing.proofs.Lengths.{package_short, name_short}

-- ---- items whose fields can be written

abbrev AllShort : List StoredItem → Type 0
AllShort [] = Unit {0}
AllShort (i ∷ is) = (length i.name ≤ 65526) × AllShort is

short_append : (xs ys : List StoredItem) → AllShort xs → AllShort ys → AllShort (xs ++ ys)
short_append [] ys h k = k
short_append (x ∷ xs) ys h k = (h.0, short_append xs ys h.1 k)

tag_there : (v : StoredValue) → not (eqb (tag_of v) 0) ≡ true
tag_there (kept.Number z) = refl
tag_there (kept.Truth t) = refl
tag_there (kept.Range low high) = refl
tag_there kept.Truths = refl

short_writable : (i : StoredItem) → length i.name ≤ 65526 → writable (item_field i) ≡ true
unfolding writable item_field
short_writable i l =
    rw (tag_there i.value)
    (lt-ltb (length (value_bytes i.value i.name)) 65536 (omega (arith, value_length i.value i.name, small_size i.value (value_size i.value) refl)))

name_writable : (n : List ℕ) → length n < 65536 → writable (name_field n) ≡ true
unfolding writable
name_writable n l = lt-ltb (length n) 65536 l

all_writable_lem : (is : List StoredItem) → AllShort is → all_writable (map item_field is) ≡ true
unfolding all_writable
all_writable_lem [] h = refl
all_writable_lem (i ∷ is) h = rw (short_writable i h.0) (all_writable_lem is h.1)

size_put : (is : List StoredItem) → size_items is ≡ length (put_items is)
unfolding fields_put size_items
size_put [] = refl
size_put (i ∷ is) = omega (arith, length-append (field_put (item_field i)) (put_items is), put_length (item_field i), size_put is)

-- ---- the names of pieces that are done

names_short : (h : Option StoredValue) (xs : List Element) → ((x : Element) → length x.bytes ≤ 65526 → length (stored_name x) ≤ 65526) → ((i : ℕ) → length (get_or xs i (record { kind = 0; bytes = [] })).bytes ≤ 65526) → AllShort (items_named h xs)
unfolding items_named
names_short None xs f g = tt
names_short (Some v) [] f g = tt
names_short (Some v) (x ∷ xs) f g = (f x (g 0), names_short (Some v) xs f (λ i. g (suc i)))

stored_short : (x : Element) → length x.bytes ≤ 65526 → length (stored_name x) ≤ 65526
unfolding stored_name
stored_short x l = omega (arith, stored_length (eqb x.kind 1) x.bytes)

claimed_short : (d : Done) → (is_claim (class_of d.piece) ≡ true → length (own_name d.piece).bytes ≤ 65526) → AllShort (items_named (stored_value d.value) (names_claimed d.piece))
claimed_short d h = subst (λ (xs : List Element). AllShort (items_named (stored_value d.value) xs)) (sym (names_by_class d.piece)) (go (is_claim (class_of d.piece)) refl)
  where
    only : length (own_name d.piece).bytes ≤ 65526 → (i : ℕ) → length (get_or (own_name d.piece ∷ []) i (record { kind = 0; bytes = [] })).bytes ≤ 65526
    only l zero = l
    only l (suc i) = omega arith

    go : (b : Bool) → is_claim (class_of d.piece) ≡ b → AllShort (items_named (stored_value d.value) (cond b (own_name d.piece ∷ []) []))
    go true e = names_short (stored_value d.value) (own_name d.piece ∷ []) stored_short (only (h e))
    go false e = names_short (stored_value d.value) [] stored_short (λ i. omega arith)

items_short : (ds : List Done) → ((j : ℕ) → is_claim (class_of (done_at ds j).piece) ≡ true → length (own_name (done_at ds j).piece).bytes ≤ 65526) → AllShort (stored_items ds)
unfolding stored_items
items_short [] h = tt
items_short (d ∷ ds) h =
    short_append (items_named (stored_value d.value) (names_claimed d.piece)) (stored_items ds) (claimed_short d (h 0)) (items_short ds (λ j. h (suc j)))

-- ---- no more items than pieces

one_or_none : (h : Option StoredValue) (b : Bool) (x : Element) → length (items_named h (cond b (x ∷ []) [])) ≤ 1
unfolding items_named
one_or_none None b x = omega arith
one_or_none (Some v) true x = omega arith
one_or_none (Some v) false x = omega arith

one_claimed : (h : Option StoredValue) (p : Piece) → length (items_named h (names_claimed p)) ≤ 1
one_claimed h p = subst (λ (xs : List Element). length (items_named h xs) ≤ 1) (sym (names_by_class p)) (one_or_none h (is_claim (class_of p)) (own_name p))

pub few_items : (ds : List Done) → length (stored_items ds) ≤ length ds
unfolding stored_items
few_items [] = omega arith
few_items (d ∷ ds) =
    omega (
      arith,
      length-append (items_named (stored_value d.value) (names_claimed d.piece)) (stored_items ds),
      one_claimed (stored_value d.value) d.piece,
      few_items ds,
    )

pub dones_size : (s : List ℕ) (ds : List Done) → Come (pieces_of s) [] (pieces_of s) ds → length ds ≡ length (pieces_of s)
dones_size s ds come =
    sym (pieces_length ds) ∙ ap length (ap pieces_done ((come_exactly (pieces_of s) [] (pieces_of s) ds).0 come) ∙ dones_pieces (pieces_of s) [] (pieces_of s))

-- ---- a survey that is whole

module _ (s : List ℕ) (z y : ℕ) (ds : List Done) (come : Come (pieces_of s) [] (pieces_of s) ds) (few : length s ≤ 65536) (frame : GoodFrame (pieces_of s)) where
  are : ds ≡ dones_from (pieces_of s) [] (pieces_of s)
  are = (come_exactly (pieces_of s) [] (pieces_of s) ds).0 come

  cuts : pieces_done ds ≡ pieces_of s
  cuts = ap pieces_done are ∙ dones_pieces (pieces_of s) [] (pieces_of s)

  good : Good (pieces_of s) ds
  good = subst (Good (pieces_of s)) (sym are) (good_from (pieces_of s) [] (pieces_of s) tt)

  some : (ps : List Piece) → class_of (piece_at ps 0) ≡ 1 → 0 < length ps
  some [] h = absurd (omega (arith, (heading_parts (kinds_in_piece []) (heading_is (kinds_in_piece []) h).0).0, kinds_length []))
  some (p ∷ ps) h = omega arith

  heading : is_heading (kinds_in_piece (piece_at (pieces_of s) 0)) ≡ true
  heading = (heading_is (kinds_in_piece (piece_at (pieces_of s) 0)) frame.first).0

  piece_short : (j : ℕ) → is_claim (class_of (piece_at (pieces_of s) j)) ≡ true → length (own_name (piece_at (pieces_of s) j)).bytes ≤ 65526
  piece_short zero e = absurd (false≢true (sym (ap is_claim frame.first) ∙ e))
  piece_short (suc j) e = name_short s few heading (suc j) 1 (omega arith)

  short : AllShort (stored_items ds)
  short =
      items_short ds (λ j h. let p = piece_is s z y ds cuts j in
      subst (λ (q : Piece). length (own_name q).bytes ≤ 65526) (sym p) (piece_short j (ap (λ (q : Piece). is_claim (class_of q)) (sym p) ∙ h)))

  title_short : length (package_name (pieces_of s)) < 65536
  unfolding package_name stored_name
  title_short =
      let p : Piece = piece_at (pieces_of s) 0 in
      omega (arith, stored_length (eqb (at p (name_place p)).kind 1) (at p (name_place p)).bytes, ap (λ (i : ℕ). length (at p i).bytes) (heading_is (kinds_in_piece p) frame.first).1, package_short s few heading)

  pub table_is : put_table s (table_of s z) (item_table ds y) (length ds) ≡ survey_bytes s ds
  unfolding put_table stored_bytes form_one fields_bytes
  table_is =
      ap₂ (λ (n : List ℕ) (is : List StoredItem). field_put (name_field n) ++ (put_items is ++ fields_bytes [])) (package_is s z y ds cuts (omega (arith, some (pieces_of s) frame.first, dones_size s ds come)) frame.first) (all_items s z y ds cuts good)
      ∙ ap (λ (l : List ℕ). field_put (name_field (package_name (pieces_of s))) ++ l) (fields_put_lem (map item_field (stored_items ds)) (all_writable_lem (stored_items ds) short))
      ∙ written_field (name_field (package_name (pieces_of s))) (fields_bytes (map item_field (stored_items ds))) (name_writable (package_name (pieces_of s)) title_short)

  pub lengths_here : all_writable (stored_fields form_one (package_name (pieces_of s)) (stored_items ds)) ≡ true
  unfolding all_writable form_one
  lengths_here = rw (name_writable (package_name (pieces_of s)) title_short) (all_writable_lem (stored_items ds) short)

-- ---- sizes

end_three : length (fields_bytes []) ≡ 3
unfolding fields_bytes
end_three = refl

sizes : (text elements items : List ℕ) (n : ℕ) → size_table text elements items n ≡ length (put_table text elements items n)
unfolding size_table put_table
sizes text elements items n =
    omega (
      arith,
      length-append (field_put (name_field (package_at text elements items))) (put_items (items_of_records text elements items n) ++ fields_bytes []),
      length-append (put_items (items_of_records text elements items n)) (fields_bytes []),
      put_length (name_field (package_at text elements items)),
      size_put (items_of_records text elements items n),
      end_three,
    )

-- ---- the ways through storing a survey

module _ (text : List ℕ) (e i o : ℕ) (x : Result Summary SurveyRefusal) (t u : List ℕ) (p : survey.Permitted text e i x t u) where
  -- what `?` makes of the survey's refusal
  pub way_refused : (r : SurveyRefusal) (a : Storing) (out : List ℕ) → x ≡ Err r → IsErrAnd a (λ e. e ≡ refusal.Survey r) → out ≡ replicate o 0 → Permitted text e i o a t u out
  way_refused r (Ok n) out h q z = absurd q
  way_refused r (Err y) out h q z = subst (λ (b : StoringRefusal). Permitted text e i o (Err b) t u out) (sym q) (refused h)
    where
      refused : x ≡ Err r → Permitted text e i o (Err (refusal.Survey r)) t u out
      refused h = let w = subst (λ (a : Result Summary SurveyRefusal). survey.Permitted text e i a t u) h p in (of_survey w.0, w.1, w.2, z)

  module _ (y : Summary) (h : x ≡ Ok y) where
    fin : Finished text e i y t u
    fin = subst (λ (a : Result Summary SurveyRefusal). survey.Permitted text e i a t u) h p

    pub asked : (length text ≤ 65536) × (y.pieces ≤ 1024)
    asked = (fin.taken.0, omega (arith, fin.pieces, fin.few))

    done : Surveyed text e i fin.dones
    done = record { taken = fin.taken; few = fin.few; room = fin.room; come = fin.come }

    -- the tables keep their lengths
    long_elements : length t ≡ e
    long_elements = let r = fin.taken.2 in omega (arith, ap length fin.elements_are, table_length text (e - 3 * length (rows_of text)))

    long_items : length u ≡ i
    long_items =
        let r = fin.room in
        omega (arith, ap length fin.items_are, items_length fin.dones (i - 8 * length (pieces_of text)), dones_size text fin.dones fin.come)

    clear_elements : (t' : List ℕ) → t' ≡ replicate (length t) 0 → t' ≡ replicate e 0
    clear_elements t' q = q ∙ ap (λ (k : ℕ). replicate k 0) long_elements

    clear_items : (u' : List ℕ) → u' ≡ replicate (length u) 0 → u' ≡ replicate i 0
    clear_items u' q = q ∙ ap (λ (k : ℕ). replicate k 0) long_items

    pub way_not_whole : (t' u' out : List ℕ) → y.whole ≡ false → t' ≡ replicate (length t) 0 → u' ≡ replicate (length u) 0 → out ≡ replicate o 0 → Permitted text e i o (Err refusal.NotWhole) t' u' out
    way_not_whole t' u' out f a b c = (not_whole done (λ w. true≢false (sym (fin.whole.1 w) ∙ f)), clear_elements t' a, clear_items u' b, c)

    table_here : y.whole ≡ true → put_table text t u y.pieces ≡ survey_bytes text fin.dones
    table_here w =
        let k = fin.whole.0 w in
        let n : y.pieces ≡ length fin.dones = fin.pieces ∙ sym (dones_size text fin.dones fin.come) in
        ap₂ (λ (a b : List ℕ). put_table text a b y.pieces) fin.elements_are fin.items_are
        ∙ ap (put_table text (table_of text (e - 3 * length (rows_of text))) (item_table fin.dones (i - 8 * length (pieces_of text)))) n
        ∙ table_is text (e - 3 * length (rows_of text)) (i - 8 * length (pieces_of text)) fin.dones fin.come fin.taken.0 k.0

    size_here : y.whole ≡ true → size_table text t u y.pieces ≡ length (survey_bytes text fin.dones)
    size_here w = sizes text t u y.pieces ∙ ap length (table_here w)

    pub way_short : (n : ℕ) (t' u' out : List ℕ) → y.whole ≡ true → n ≡ size_table text t u y.pieces → length out < n → t' ≡ replicate (length t) 0 → u' ≡ replicate (length u) 0 → out ≡ replicate o 0
        → Permitted text e i o (Err (refusal.OutputShort (length out))) t' u' out
    way_short n t' u' out w s l a b c =
        let q : length out ≡ o = ap length c ∙ length-replicate o 0 in
        let g : o < length (survey_bytes text fin.dones) = omega (arith, size_here w, s, l, q) in
        (subst (λ (k : ℕ). Given text e i o 22 k) (sym q) (output_short done (fin.whole.0 w) g), clear_elements t' a, clear_items u' b, c)

    pub way_stored : (n r : ℕ) (out out' : List ℕ) → y.whole ≡ true → n ≡ size_table text t u y.pieces → n ≤ length out → out ≡ replicate o 0 → Wrote out 0 (put_table text t u y.pieces) out' r
        → Permitted text e i o (Ok n) t u out'
    way_stored n r out out' w s l z v =
        let q : length out ≡ o = ap length z ∙ length-replicate o 0 in
        let m : n ≡ length (survey_bytes text fin.dones) = s ∙ size_here w in
        let v' : Wrote out 0 (survey_bytes text fin.dones) out' r = subst (λ (bs : List ℕ). Wrote out 0 bs out' r) (table_here w) v in
        record {
          dones = fin.dones;
          surveyed = done;
          whole = fin.whole.0 w;
          size = m;
          fits = omega (arith, l, q);
          elements_are = fin.elements_are;
          items_are = fin.items_are;
          out_is = filled out out' (survey_bytes text fin.dones) o r z (omega (arith, l, q, m)) v' ∙ ap (λ (k : ℕ). survey_bytes text fin.dones ++ replicate (o - k) 0) (sym m);
        }
