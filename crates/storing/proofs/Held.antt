-- Over a text's own tables, the code's items are those that the survey stores. Assumes nothing.
use Rattle.std.specs.Prelude.{Option, Some, None}
use mathlib.Core.Path.{◌≡◌, refl, sym, ap, ap₂, ◌∙◌}
use mathlib.Core.Bool.{Bool, true, false, cond, ◌&&◌, ◌||◌, false≢true}
use mathlib.Core.List.{List, [], ◌∷◌, ◌++◌, append-nil, append_assoc}
use Prim.Native.Nat.{ℕ, zero, suc, ◌≤◌, ◌<◌}
use native.Mathlib.Omega.{arith}
use borrow.Author.Tests.{eqb-true}
use lib.Dec.{eqb}
use lib.ListN.{length, get_or, take}
use lib.Seq.{take-suc, take-length}
use Rattle.laws.proofs.Laws.{both_left, both_right}
use Rattle.element_reading.specs.Rows.{rows_of}
use Rattle.places.specs.Kinds.{is_name}
use Rattle.pieces.specs.Kinds.{class_at, is_heading, behind_word, has_name, is_closing, claim_class, piece_class}
use Rattle.pieces.specs.Columns as column
use Rattle.pieces.specs.Records.{name_of}
use Rattle.pieces.specs.declared.PieceClass.{PieceClass}
use Rattle.records.specs.Records.{word_at, is_item, is_claim}
use Rattle.values.specs.ValueWords.{state_of, value_kind, low_of, high_of}
use Rattle.values.specs.Values.{lean_of}
use Rattle.values.specs.declared.Value.{Value}
use Rattle.values.specs.declared.Value.TheVariants as value
use Rattle.values.specs.code.Used.{used_constant, used_subtype, used_value}
use Rattle.marks.proofs.Laws.{Fits, used_lean}
use Rattle.stored.specs.StoredItems.{StoredItem}
use Rattle.meaning.specs.Elements.{Element, Piece, at}
use Rattle.meaning.specs.Pieces.{kinds_in_piece, pieces_of, elements_of, class_of}
use Rattle.meaning.specs.Names.{own_name, names_claimed, Done}
use Rattle.meaning.specs.Records.{item_value_words}
use Rattle.meaning.specs.code.PieceValues.{done_of, dones_from}
use Rattle.meaning.proofs.Begun.{names_by_class}
use Rattle.meaning.proofs.Cutting.{total, join_all, kinds_length}
use Rattle.meaning.proofs.Tables.{element_at, element_at_lem}
use Rattle.meaning.proofs.Places.{table_of}
use Rattle.meaning.proofs.Records.{pending, pieces_done}
use Rattle.meaning.proofs.Words.{piece_at, done_at, item_table, class_at_lem, value_word, name_at_lem}
use Rattle.meaning.proofs.Claims.{piece_is, dones_length, joins, name_element_lem, second_at}
use Rattle.meaning.proofs.Good.{GoodDone, Good}
use Rattle.meaning.proofs.Sound.{good_done, good_more}
use Rattle.storing.specs.SurveyItems.{stored_value, stored_name, items_named, stored_items, package_name}
use Rattle.stored.specs.declared.StoredValue.{StoredValue}
use Rattle.storing.specs.code.Tables.{held_at, stored_name_at, item_by, item_at, items_of_records, package_at}

pub dones_pieces : (all : List Piece) (above : List Done) (ps : List Piece) → pieces_done (dones_from all above ps) ≡ ps
unfolding pieces_done dones_from
dones_pieces all above [] = refl
dones_pieces all above (p ∷ ps) = ap (λ (l : List Piece). p ∷ l) (dones_pieces all (above ++ done_of all above p ∷ []) ps)

-- ---- what pieces come to fits their records

pub good_from : (all : List Piece) (above : List Done) (ps : List Piece) → Good all above → Good all (dones_from all above ps)
unfolding dones_from
good_from all above [] g = tt
good_from all above (p ∷ ps) g = (good_done all above g p, good_from all (above ++ done_of all above p ∷ []) ps (good_more all above p g))

good_at : (all : List Piece) (ds : List Done) (f : ℕ) → f < length ds → Good all ds → GoodDone all (done_at ds f)
good_at all [] f h g = absurd (omega arith)
good_at all (d ∷ ds) zero h g = g.0
good_at all (d ∷ ds) (suc f) h g = good_at all ds f (omega arith) g.1

-- ---- a record's value

claim_item : (c : ℕ) → is_claim c ≡ true → is_item c ≡ true
claim_item c h = go (eqb c 3) (eqb c 4) (eqb c 5) h
  where
    go : (a b d : Bool) → (a || b) ≡ true → ((a || b) || d) ≡ true
    go true b d e = refl
    go false true d e = refl
    go false false d e = absurd (false≢true e)

lean_stored : (v : Value) → stored_value (lean_of v) ≡ stored_value v
lean_stored (value.Number z) = refl
lean_stored (value.Truth t) = refl
lean_stored (value.Range low high) = refl
lean_stored value.Truths = refl
lean_stored (value.Without s) = refl

held_claimed : (ds : List Done) (y f : ℕ) → f < length ds → is_claim (class_of (done_at ds f).piece) ≡ true → Fits (class_of (done_at ds f).piece) (done_at ds f).value
    → held_at (item_table ds y) f ≡ stored_value (done_at ds f).value
unfolding held_at
held_claimed ds y f h c fits =
    let v = (done_at ds f).value in
    let item : (k : ℕ) → get_or (item_value_words (is_item (class_of (done_at ds f).piece)) (done_at ds f).value) k 0 ≡ get_or (item_value_words true (done_at ds f).value) k 0 =
    λ k. ap (λ (b : Bool). get_or (item_value_words b (done_at ds f).value) k 0) (claim_item (class_of (done_at ds f).piece) c) in
    let a : word_at (item_table ds y) f column.state ≡ state_of v = value_word ds y f h 0 (omega arith) ∙ item 0 in
    let b : word_at (item_table ds y) f column.kind ≡ value_kind v = value_word ds y f h 1 (omega arith) ∙ item 1 in
    let d : word_at (item_table ds y) f column.low ≡ low_of v = value_word ds y f h 2 (omega arith) ∙ item 2 in
    let e : word_at (item_table ds y) f column.high ≡ high_of v = value_word ds y f h 3 (omega arith) ∙ item 3 in
    let g : used_value (word_at (item_table ds y) f 0) (word_at (item_table ds y) f 4) (word_at (item_table ds y) f 5) (word_at (item_table ds y) f 6) (word_at (item_table ds y) f 7) ≡ lean_of v =
    rw (class_at_lem ds y f h, a, b, d, e) (used_lean (class_of (done_at ds f).piece) (done_at ds f).value fits) in
    ap stored_value g ∙ lean_stored (done_at ds f).value

-- a record that claims nothing gives nothing
unclaimed_nothing : (c s k l m : ℕ) → is_claim c ≡ false → stored_value (used_value c s k l m) ≡ None
unfolding used_value
unclaimed_nothing c s k l m h = go (eqb s 0) (eqb c 3) (eqb c 4) h
  where
    go : (x a b : Bool) → (a || b) ≡ false → stored_value (cond x (cond a (used_constant k l) (cond b (used_subtype k l m) (value.Without 5))) (value.Without 5)) ≡ None
    go true true b e = absurd (false≢true (sym e))
    go true false true e = absurd (false≢true (sym e))
    go true false false e = refl
    go false a b e = refl

held_unclaimed : (ds : List Done) (y f : ℕ) → f < length ds → is_claim (class_of (done_at ds f).piece) ≡ false → held_at (item_table ds y) f ≡ None
unfolding held_at
held_unclaimed ds y f h c =
    unclaimed_nothing (word_at (item_table ds y) f 0) (word_at (item_table ds y) f 4) (word_at (item_table ds y) f 5) (word_at (item_table ds y) f 6) (word_at (item_table ds y) f 7) (ap is_claim (class_at_lem ds y f h) ∙ c)

by_held : (h : Option StoredValue) (x : Element) → item_by h (stored_name x) ≡ items_named h (x ∷ [])
unfolding items_named
by_held None x = refl
by_held (Some v) x = refl

by_none : (h : Option StoredValue) → items_named h [] ≡ []
unfolding items_named
by_none None = refl
by_none (Some v) = refl

stored_append : (xs ys : List Done) → stored_items (xs ++ ys) ≡ stored_items xs ++ stored_items ys
unfolding stored_items
stored_append [] ys = refl
stored_append (d ∷ xs) ys =
    ap (λ (l : List StoredItem). items_named (stored_value d.value) (names_claimed d.piece) ++ l) (stored_append xs ys)
    ∙ sym (append_assoc (items_named (stored_value d.value) (names_claimed d.piece)) (stored_items xs) (stored_items ys))

stored_one : (d : Done) → stored_items (d ∷ []) ≡ items_named (stored_value d.value) (names_claimed d.piece)
unfolding stored_items
stored_one d = append-nil (items_named (stored_value d.value) (names_claimed d.piece))

-- ---- over a text's tables

module _ (s : List ℕ) (z y : ℕ) (ds : List Done) (cuts : pieces_done ds ≡ pieces_of s) (good : Good (pieces_of s) ds) where
  name_by : (e : ℕ) → stored_name_at s (table_of s z) e ≡ stored_name (at (elements_of s (rows_of s)) e)
  unfolding stored_name_at stored_name element_at
  name_by e = ap stored_name (element_at_lem s (rows_of s) z e)

  name_is : (j : ℕ) → is_claim (class_of (done_at ds j).piece) ≡ true → stored_name_at s (table_of s z) (word_at (item_table ds y) j 3) ≡ stored_name (own_name (done_at ds j).piece)
  name_is j h =
      let p = piece_is s z y ds cuts j in
      name_by (word_at (item_table ds y) j 3) ∙ ap stored_name (name_element_lem s z y ds cuts j (ap (λ (q : Piece). is_claim (class_of q)) (sym p) ∙ h) ∙ ap own_name (sym p))

  item_is : (j : ℕ) → j < length ds → item_at s (table_of s z) (item_table ds y) j ≡ items_named (stored_value (done_at ds j).value) (names_claimed (done_at ds j).piece)
  unfolding item_at
  item_is j l = go (is_claim (class_of (done_at ds j).piece)) refl ∙ ap (items_named (stored_value (done_at ds j).value)) (sym (names_by_class (done_at ds j).piece))
    where
      go : (b : Bool) → is_claim (class_of (done_at ds j).piece) ≡ b
          → item_by (held_at (item_table ds y) j) (stored_name_at s (table_of s z) (word_at (item_table ds y) j 3)) ≡ items_named (stored_value (done_at ds j).value) (cond b (own_name (done_at ds j).piece ∷ []) [])
      go true e =
          ap₂ item_by (held_claimed ds y j l e (good_at (pieces_of s) ds j l good e).0) (name_is j e) ∙ by_held (stored_value (done_at ds j).value) (own_name (done_at ds j).piece)
      go false e =
          ap (λ (h : Option StoredValue). item_by h (stored_name_at s (table_of s z) (word_at (item_table ds y) j 3))) (held_unclaimed ds y j l e) ∙ sym (by_none (stored_value (done_at ds j).value))

  items_are : (n : ℕ) → n ≤ length ds → items_of_records s (table_of s z) (item_table ds y) n ≡ stored_items (take n ds)
  unfolding items_of_records stored_items
  items_are zero h = refl
  items_are (suc n) h =
      ap₂ (λ (a b : List StoredItem). a ++ b) (items_are n (omega arith)) (item_is n h ∙ sym (stored_one (done_at ds n)))
      ∙ sym (ap stored_items (take-suc ds n (pending []) h) ∙ stored_append (take n ds) (done_at ds n ∷ []))

  pub all_items : items_of_records s (table_of s z) (item_table ds y) (length ds) ≡ stored_items ds
  all_items = items_are (length ds) (omega arith) ∙ ap stored_items (take-length ds)

-- ---- the heading

abbrev marked : Bool → Bool → Bool → Bool → Bool → ℕ → PieceClass
marked heading closing named constant subtype place =
    cond heading (class_at 1 1) (cond closing (class_at 2 place) (cond named (cond constant (class_at 3 1) (cond subtype (class_at 4 1) (class_at 5 0))) (class_at 5 0)))

heading_so : (heading closing named constant subtype : Bool) (place : ℕ) → (marked heading closing named constant subtype place).class ≡ 1
    → (heading ≡ true) × ((marked heading closing named constant subtype place).place ≡ 1)
heading_so true b c d e n h = (refl, refl)
heading_so false true c d e n h = absurd (omega arith)
heading_so false false true true e n h = absurd (omega arith)
heading_so false false true false true n h = absurd (omega arith)
heading_so false false true false false n h = absurd (omega arith)
heading_so false false false d e n h = absurd (omega arith)

pub heading_is : (ks : List ℕ) → (piece_class ks).class ≡ 1 → (is_heading ks ≡ true) × ((piece_class ks).place ≡ 1)
unfolding piece_class claim_class
heading_is ks h = heading_so (is_heading ks) (is_closing ks) (is_name (get_or ks 1 0)) (eqb (get_or ks 0 0) 53) (eqb (get_or ks 0 0) 129) (cond (has_name ks) (behind_word ks) 0) h

pub heading_parts : (ks : List ℕ) → is_heading ks ≡ true → (length ks ≡ 3) × (get_or ks 0 0 ≡ 98) × (get_or ks 2 0 ≡ 78)
unfolding is_heading
heading_parts ks h =
    let a = both_left (eqb (length ks) 3) ((eqb (get_or ks 0 0) 98 && is_name (get_or ks 1 0)) && eqb (get_or ks 2 0) 78) h in
    let b = both_right (eqb (length ks) 3) ((eqb (get_or ks 0 0) 98 && is_name (get_or ks 1 0)) && eqb (get_or ks 2 0) 78) h in
    let c = both_left (eqb (get_or ks 0 0) 98 && is_name (get_or ks 1 0)) (eqb (get_or ks 2 0) 78) b in
    let d = both_right (eqb (get_or ks 0 0) 98 && is_name (get_or ks 1 0)) (eqb (get_or ks 2 0) 78) b in
    (eqb-true (length ks) 3 a, eqb-true (get_or ks 0 0) 98 (both_left (eqb (get_or ks 0 0) 98) (is_name (get_or ks 1 0)) c), eqb-true (get_or ks 2 0) 78 d)

module _ (s : List ℕ) (z y : ℕ) (ds : List Done) (cuts : pieces_done ds ≡ pieces_of s) (some : 0 < length ds) (first : class_of (piece_at (pieces_of s) 0) ≡ 1) where
  abbrev place : (piece_class (kinds_in_piece (piece_at (pieces_of s) 0))).place ≡ 1
  place = (heading_is (kinds_in_piece (piece_at (pieces_of s) 0)) first).1

  long : 1 < length (piece_at (pieces_of s) 0)
  long = let k = (heading_parts (kinds_in_piece (piece_at (pieces_of s) 0)) (heading_is (kinds_in_piece (piece_at (pieces_of s) 0)) first).0).0 in omega (arith, kinds_length (piece_at (pieces_of s) 0))

  element_one : at (elements_of s (rows_of s)) 1 ≡ at (piece_at (pieces_of s) 0) 1
  unfolding total
  element_one =
      ap (λ (l : List Element). at l 1) (sym (joins s z y ds cuts) ∙ ap join_all cuts) ∙ second_at (pieces_of s) 0 (omega (arith, dones_length s z y ds cuts)) long

  word_one : word_at (item_table ds y) 0 3 ≡ 1
  unfolding name_of total
  word_one =
      name_at_lem ds y 0 some ∙ ap (name_of 0) (ap (λ (p : Piece). (piece_class (kinds_in_piece p)).place) (piece_is s z y ds cuts 0) ∙ place)

  pub package_is : package_at s (table_of s z) (item_table ds y) ≡ package_name (pieces_of s)
  unfolding package_at package_name stored_name_at stored_name element_at
  package_is =
      ap stored_name (element_at_lem s (rows_of s) z (word_at (item_table ds y) 0 3) ∙ ap (at (elements_of s (rows_of s))) word_one ∙ element_one ∙ ap (at (piece_at (pieces_of s) 0)) (sym place))
