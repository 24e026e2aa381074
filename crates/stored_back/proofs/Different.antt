-- In a whole survey no name is claimed twice, nor one of the language's: so the names that are stored are legal, all different and none the
-- language's. Assumes nothing.
use Rattle.std.specs.Prelude.{Option, Some, None}
use Prim.Native.Nat.{ℕ, suc, ◌+◌, ◌≤◌}
use mathlib.Core.Path.{◌≡◌, refl, sym, ap, subst, ◌∙◌}
use mathlib.Core.Bool.{Bool, true, false, cond, not, ◌&&◌, ◌||◌, false≢true}
use mathlib.Core.List.{List, [], ◌∷◌, ◌++◌, append_assoc}
use native.Mathlib.Omega.{arith}
use borrow.Author.Tests.{eqb-true, leb-false}
use lib.Dec.{eqb}
use Rattle.laws.proofs.Laws.{both_left, both_right}
use Rattle.forms.specs.Tree.{Row}
use Rattle.tree.specs.code.PieceRows.{rows_of_piece}
use Rattle.places.specs.Kinds.{is_name}
use Rattle.records.specs.Records.{is_claim}
use Rattle.records.specs.Counting.{one_if}
use Rattle.names.specs.Language.{language_names}
use Rattle.values.specs.ValueWords.{state_of}
use Rattle.values.specs.declared.Value.{Value}
use Rattle.meaning.specs.Elements.{Element, Piece}
use Rattle.meaning.specs.Pieces.{kinds_in_piece, class_of}
use Rattle.meaning.specs.Names.{own_name, names_claimed, language, claims, claims_in, is_doubled, own_doubled, Done, use_of}
use Rattle.meaning.specs.Together.{piece_at, AllFold}
use Rattle.meaning.specs.code.PieceValues.{formed, unless_doubled, value_of, done_of, dones_from}
use Rattle.meaning.proofs.Begun.{names_by_class}
use Rattle.meaning.proofs.Records.{pieces_done}
use Rattle.meaning.proofs.Claims.{claim_name}
use Rattle.meaning.proofs.Claimed.{claims_by_lem, doubled_one}
use Rattle.meaning.proofs.Sameness.{own_claimed}
use Rattle.meaning.proofs.Uses.{claim_item}
use Rattle.stored.specs.StoredItems.{StoredItem}
use Rattle.stored.specs.LegalNames.{legal_name}
use Rattle.stored.specs.Stored.{same_bytes, among, distinct, item_names, sized, item_legal, all_legal, form_one}
use Rattle.storing.specs.SurveyItems.{stored_value, stored_name, items_named, stored_items}
use Rattle.storing.specs.Promises.{all_sized}
use Rattle.names_alone.specs.Alone.{Alone}
use Rattle.stored.specs.declared.StoredValue.{StoredValue}
use Rattle.stored_back.proofs.Names.{stored_legal, stored_same, stored_own}

-- ---- a piece of a whole survey

-- one that claims a name has a name that is one by itself, and no other claim
abbrev Fine : List Piece → Done → Type 0
Fine all d = is_claim (class_of d.piece) ≡ true → Alone (own_name d.piece) × (is_doubled all (own_name d.piece) ≡ false)

abbrev pub AllFine : List Piece → List Done → Type 0
AllFine all [] = Unit {0}
AllFine all (d ∷ ds) = Fine all d × AllFine all ds

-- a doubled one is in state 1 or 2
doubled_state : (b : Bool) (rs : List Row) (v : Value) → state_of (unless_doubled b rs v) ≡ 0 → b ≡ false
doubled_state b [] v h = absurd (omega arith)
doubled_state true (r ∷ rs) v h = absurd (omega arith)
doubled_state false (r ∷ rs) v h = refl

folded_single : (all : List Piece) (above : List Done) (p : Piece) → state_of (value_of all above p) ≡ 0 → own_doubled all p ≡ false
unfolding value_of
folded_single all above p h = doubled_state (own_doubled all p) (rows_of_piece (kinds_in_piece p)) (formed p (use_of all above) (rows_of_piece (kinds_in_piece p))) h

pub fine_from : (all : List Piece) (above : List Done) (ps : List Piece) → ((i : ℕ) → Alone (own_name (piece_at ps i))) → AllFold (dones_from all above ps) → AllFine all (dones_from all above ps)
unfolding dones_from
fine_from all above [] a f = tt
fine_from all above (p ∷ ps) a f = (here, fine_from all (above ++ done_of all above p ∷ []) ps (λ i. a (suc i)) f.1)
  where
    here : Fine all (done_of all above p)
    here h =
        let e = folded_single all above p (f.0 (claim_item (class_of p) h)) in
        (a 0, sym (ap (λ (b : Bool). b && is_doubled all (own_name p)) h) ∙ sym (doubled_one all p) ∙ e)

-- ---- what is not claimed again

-- what stands before a list of pieces adds claims and takes none away
claims_behind : (x : Element) (before ps : List Piece) → claims_in x ps ≤ claims_in x (before ++ ps)
unfolding claims_in
claims_behind x [] ps = omega arith
claims_behind x (p ∷ before) ps = omega (arith, claims_behind x before ps)

none_language : (x : Element) (ps : List Piece) → claims_in x ps ≡ 0 → language x ≡ 0
unfolding claims_in
none_language x [] h = go (eqb (language x) 0) refl h
  where
    go : (b : Bool) → eqb (language x) 0 ≡ b → one_if (not b) ≡ 0 → language x ≡ 0
    go true e q = eqb-true (language x) 0 e
    go false e q = absurd (omega arith)
none_language x (p ∷ ps) h = none_language x ps (omega arith)

-- the one claim of a name is at this piece
single : (all : List Piece) (before : List Piece) (p : Piece) (ps : List Piece) → all ≡ before ++ p ∷ ps → is_claim (class_of p) ≡ true → is_doubled all (own_name p) ≡ false → claims_in (own_name p) ps ≡ 0
unfolding claims_in
single all before p ps e h d =
    let few = leb-false 2 (claims_in (own_name p) all) d in
    let own : one_if (claims (own_name p) p) ≡ 1 = ap one_if (own_claimed p h) in
    omega (arith, ap (claims_in (own_name p)) e, claims_behind (own_name p) before (p ∷ ps), few, own)

-- ---- items and their names

among_append : (n : List ℕ) (xs ys : List StoredItem) → among n (item_names xs) ≡ false → among n (item_names ys) ≡ false → among n (item_names (xs ++ ys)) ≡ false
unfolding among
among_append n [] ys h k = k
among_append n (x ∷ xs) ys h k = go (same_bytes n x.name) h (λ e. among_append n xs ys e k)
  where
    go : (b : Bool) → (b || among n (item_names xs)) ≡ false → (among n (item_names xs) ≡ false → among n (item_names (xs ++ ys)) ≡ false) → (b || among n (item_names (xs ++ ys))) ≡ false
    go true e ih = absurd (false≢true (sym e))
    go false e ih = ih e

-- the name of an element that no piece of these claims is stored for none of them
module _ (x : Element) (a : Alone x) (n : is_name x.kind ≡ true) where
  differs : (p : Piece) → is_claim (class_of p) ≡ true → Alone (own_name p) → claims x p ≡ false → same_bytes (stored_name x) (stored_name (own_name p)) ≡ false
  differs p h b c = go (same_bytes (stored_name x) (stored_name (own_name p))) refl
    where
      go : (t : Bool) → same_bytes (stored_name x) (stored_name (own_name p)) ≡ t → t ≡ false
      go true e = absurd (false≢true (sym c ∙ claims_by_lem x p h (stored_same x (own_name p) a b n (claim_name p h) e)))
      go false e = refl

  none_here : (h : Option StoredValue) (p : Piece) → (is_claim (class_of p) ≡ true → Alone (own_name p)) → claims x p ≡ false → among (stored_name x) (item_names (items_named h (names_claimed p))) ≡ false
  unfolding items_named among
  none_here h p b c =
      subst (λ (xs : List Element). among (stored_name x) (item_names (items_named h xs)) ≡ false) (sym (names_by_class p)) (go h (is_claim (class_of p)) refl)
    where
      go : (h : Option StoredValue) (t : Bool) → is_claim (class_of p) ≡ t → among (stored_name x) (item_names (items_named h (cond t (own_name p ∷ []) []))) ≡ false
      go None t e = refl
      go (Some v) true e = rw (differs p e (b e) c)
      go (Some v) false e = refl

  none_among : (all : List Piece) (ds : List Done) → AllFine all ds → claims_in x (pieces_done ds) ≡ 0 → among (stored_name x) (item_names (stored_items ds)) ≡ false
  unfolding stored_items pieces_done claims_in among
  none_among all [] f h = refl
  none_among all (d ∷ ds) f h =
      among_append (stored_name x) (items_named (stored_value d.value) (names_claimed d.piece)) (stored_items ds)
      (none_here (stored_value d.value) d.piece (λ k. (f.0 k).0) (unclaimed (claims x d.piece) (omega arith))) (none_among all ds f.1 (omega arith))
    where
      unclaimed : (b : Bool) → one_if b ≡ 0 → b ≡ false
      unclaimed true e = absurd (omega arith)
      unclaimed false e = refl

-- ---- all different

distinct_first : (all : List Piece) (d : Done) (ds : List Done) → AllFine all (d ∷ ds) → (is_claim (class_of d.piece) ≡ true → claims_in (own_name d.piece) (pieces_done ds) ≡ 0)
    → distinct (item_names (stored_items ds)) ≡ true → distinct (item_names (stored_items (d ∷ ds))) ≡ true
unfolding stored_items items_named distinct
distinct_first all d ds f s h =
    subst (λ (xs : List Element). distinct (item_names (items_named (stored_value d.value) xs ++ stored_items ds)) ≡ true) (sym (names_by_class d.piece))
    (go (stored_value d.value) (is_claim (class_of d.piece)) refl)
  where
    go : (k : Option StoredValue) (t : Bool) → is_claim (class_of d.piece) ≡ t → distinct (item_names (items_named k (cond t (own_name d.piece ∷ []) []) ++ stored_items ds)) ≡ true
    go None t e = h
    go (Some v) true e = rw (none_among (own_name d.piece) (f.0 e).0 (claim_name d.piece e) all ds f.1 (s e)) h
    go (Some v) false e = h

pub all_distinct : (all before : List Piece) (ds : List Done) → all ≡ before ++ pieces_done ds → AllFine all ds → distinct (item_names (stored_items ds)) ≡ true
unfolding stored_items distinct pieces_done
all_distinct all before [] e f = refl
all_distinct all before (d ∷ ds) e f =
    distinct_first all d ds f (λ h. single all before d.piece (pieces_done ds) e h (f.0 h).1) (all_distinct all (before ++ d.piece ∷ []) ds (e ∙ sym (append_assoc before (d.piece ∷ []) (pieces_done ds))) f.1)

-- ---- each legal

abbrev Owned : List StoredItem → Type 0
Owned [] = Unit {0}
Owned (i ∷ is) = (legal_name i.name ≡ true) × (among i.name language_names ≡ false) × Owned is

owned_append : (xs ys : List StoredItem) → Owned xs → Owned ys → Owned (xs ++ ys)
owned_append [] ys h k = k
owned_append (x ∷ xs) ys h k = (h.0, h.1, owned_append xs ys h.2 k)

owned_here : (all : List Piece) (d : Done) (before : List Piece) (ps : List Piece) → all ≡ before ++ d.piece ∷ ps → Fine all d → Owned (items_named (stored_value d.value) (names_claimed d.piece))
unfolding items_named
owned_here all d before ps e f =
    subst (λ (xs : List Element). Owned (items_named (stored_value d.value) xs)) (sym (names_by_class d.piece)) (go (stored_value d.value) (is_claim (class_of d.piece)) refl)
  where
    go : (k : Option StoredValue) (t : Bool) → is_claim (class_of d.piece) ≡ t → Owned (items_named k (cond t (own_name d.piece ∷ []) []))
    go None t h = tt
    go (Some v) true h =
        let a = (f h).0 in
        let n = claim_name d.piece h in
        (stored_legal (own_name d.piece) a n, stored_own (own_name d.piece) a n (none_language (own_name d.piece) ps (single all before d.piece ps e h (f h).1)), tt)
    go (Some v) false h = tt

all_owned : (all before : List Piece) (ds : List Done) → all ≡ before ++ pieces_done ds → AllFine all ds → Owned (stored_items ds)
unfolding stored_items pieces_done
all_owned all before [] e f = tt
all_owned all before (d ∷ ds) e f =
    owned_append (items_named (stored_value d.value) (names_claimed d.piece)) (stored_items ds) (owned_here all d before (pieces_done ds) e f.0)
    (all_owned all (before ++ d.piece ∷ []) ds (e ∙ sym (append_assoc before (d.piece ∷ []) (pieces_done ds))) f.1)

legal_by : (is : List StoredItem) → all_sized is ≡ true → Owned is → all_legal form_one is ≡ true
unfolding all_legal item_legal form_one
legal_by [] s o = refl
legal_by (i ∷ is) s o =
    rw (both_left (sized i.value) (all_sized is) s, o.0, o.1) (legal_by is (both_right (sized i.value) (all_sized is) s) o.2)

pub all_legal_lem : (all before : List Piece) (ds : List Done) → all ≡ before ++ pieces_done ds → AllFine all ds → all_sized (stored_items ds) ≡ true → all_legal form_one (stored_items ds) ≡ true
all_legal_lem all before ds e f s = legal_by (stored_items ds) s (all_owned all before ds e f)
