-- Which record claims an element's name, in the tables and by the pieces. Assumes nothing.
use mathlib.Core.Path.{◌≡◌, refl, sym, ap, ◌∙◌}
use mathlib.Core.Bool.{Bool, true, false, cond, ◌&&◌, false≢true}
use mathlib.Core.List.{List, [], ◌∷◌}
use Prim.Native.Nat.{ℕ, zero, suc, ◌+◌, ◌/◌, ◌≤◌, ◌<◌, min}
use native.Mathlib.Nat.{zero-add}
use native.Mathlib.Omega.{arith}
use borrow.Author.Tests.{ltb-true, ltb-false, eqb-true}
use lib.Dec.{eqb, ltb}
use lib.ListN.{length, get_or, take, drop, get_or-eq_default}
use lib.Seq.{split_at}
use Rattle.same_names.specs.Alike.{same_name}
use Rattle.element_reading.specs.Rows.{rows_of}
use Rattle.pieces.specs.Kinds.{is_heading, behind_word, has_name, ends_at, is_closing, claim_class, piece_class}
use Rattle.places.specs.Kinds.{is_name}
use Rattle.pieces.specs.Records.{name_of}
use Rattle.records.specs.Records.{word_at, is_claim}
use Rattle.names.specs.code.Links.{records_in, first_from, claims_element, link_of, filled, links_table}
use Rattle.names.proofs.Tables.{filled_length, filled_at, filled_past}
use Rattle.pieces.specs.Columns as column
use Rattle.meaning.proofs.Begun.{kinds_at_lem, marked}
use Rattle.meaning.proofs.Claimed.{claims_one}
use Rattle.meaning.specs.Elements.{Element, Piece, nothing, at}
use Rattle.meaning.specs.Pieces.{kinds_in_piece, pieces_of, class_of}
use Rattle.meaning.proofs.Cutting.{join_all, total, cut_joins, at_piece, kinds_length}
use Rattle.meaning.proofs.Named.{same_name_lem}
use Rattle.meaning.specs.Names.{own_name, claims, Done, same_as}
use Rattle.meaning.proofs.Records.{pieces_done, pieces_length, word_past}
use Rattle.meaning.proofs.Places.{table_of, elements, elements_length, table_length, at_past}
use Rattle.meaning.proofs.Words.{piece_at, done_at, item_table, pieces_at, items_length, class_at_lem, name_at_lem}

-- ---- a piece that claims a name has it at its second element

marked_claim : (heading closing named constant subtype : Bool) (place : ℕ) → is_claim (marked heading closing named constant subtype place).class ≡ true
    → ((marked heading closing named constant subtype place).place ≡ 1) × (named ≡ true)
marked_claim true b c d e n h = absurd (false≢true h)
marked_claim false true c d e n h = absurd (false≢true h)
marked_claim false false true true e n h = (refl, refl)
marked_claim false false true false true n h = (refl, refl)
marked_claim false false true false false n h = absurd (false≢true h)
marked_claim false false false d e n h = absurd (false≢true h)

claim_opens : (ks : List ℕ) → is_claim (piece_class ks).class ≡ true → ((piece_class ks).place ≡ 1) × (is_name (get_or ks 1 0) ≡ true)
unfolding piece_class claim_class
claim_opens ks h =
    marked_claim (is_heading ks) (is_closing ks) (is_name (get_or ks 1 0)) (eqb (get_or ks 0 0) 53) (eqb (get_or ks 0 0) 129) (cond (has_name ks) (behind_word ks) 0) h

pub claim_place : (ks : List ℕ) → is_claim (piece_class ks).class ≡ true → ((piece_class ks).place ≡ 1) × (1 < length ks)
claim_place ks h = ((claim_opens ks h).0, long ks (claim_opens ks h).1)
  where
    long : (ks : List ℕ) → is_name (get_or ks 1 0) ≡ true → 1 < length ks
    long [] e = absurd (false≢true e)
    long (x ∷ []) e = absurd (false≢true e)
    long (x ∷ y ∷ ks) e = omega arith

pub claim_name : (p : Piece) → is_claim (class_of p) ≡ true → is_name (own_name p).kind ≡ true
claim_name p h = ap is_name (sym (kinds_at_lem p 1)) ∙ (claim_opens (kinds_in_piece p) h).1

-- an empty piece claims nothing, and nothing claims what is no element
empty_claim : is_claim (class_of []) ≡ false
unfolding kinds_in_piece piece_class is_heading is_closing ends_at has_name behind_word claim_class
empty_claim = refl

pub none_claims : (x : Element) → claims x [] ≡ false
none_claims x = claims_one x [] ∙ rw empty_claim

pub nothing_claimed : (p : Piece) → claims nothing p ≡ false
unfolding same_as
nothing_claimed p = claims_one nothing p ∙ go (is_claim (class_of p)) (eqb (own_name p).kind 0) refl
  where
    go : (a b : Bool) → eqb (own_name p).kind 0 ≡ b → (a && same_as (own_name p) nothing) ≡ false
    go false b e = refl
    go true true e = rw (e, eqb-true (own_name p).kind 0 e)
    go true false e = rw e

-- ---- a record claims what its piece claims

pub same_beside : (b x y : Bool) → (b ≡ true → x ≡ y) → (b && x) ≡ (b && y)
same_beside true x y h = h refl
same_beside false x y h = refl

pub past_end : (ps : List Piece) (j : ℕ) → length ps ≤ j → piece_at ps j ≡ []
past_end [] j h = refl
past_end (p ∷ ps) zero h = absurd (omega arith)
past_end (p ∷ ps) (suc j) h = past_end ps j (omega arith)

-- the second element of the j-th piece
pub second_at : (ps : List Piece) (j : ℕ) → j < length ps → 1 < length (piece_at ps j) → at (join_all ps) (total (take j ps) + 1) ≡ at (piece_at ps j) 1
second_at ps j h g =
    ap (λ (qs : List Piece). at (join_all qs) (total (take j ps) + 1)) (split_at ps j [] h) ∙ at_piece (take j ps) (piece_at ps j) (drop (suc j) ps) 1 g

module _ (s : List ℕ) (z y : ℕ) (ds : List Done) (cuts : pieces_done ds ≡ pieces_of s) where
  -- the j-th piece
  pub piece_is : (j : ℕ) → (done_at ds j).piece ≡ piece_at (pieces_of s) j
  piece_is j = sym (pieces_at ds j) ∙ ap (λ (ps : List Piece). piece_at ps j) cuts

  pub dones_length : length (pieces_of s) ≡ length ds
  dones_length = sym (ap length cuts) ∙ pieces_length ds

  pub joins : join_all (pieces_done ds) ≡ elements s
  unfolding pieces_of
  joins = ap join_all cuts ∙ cut_joins (elements s)

  -- the class of the j-th record, and its name's element
  pub claim_at : (j : ℕ) → is_claim (word_at (item_table ds y) j column.class) ≡ is_claim (class_of (piece_at (pieces_of s) j))
  claim_at j = go (ltb j (length ds)) refl
    where
      go : (b : Bool) → ltb j (length ds) ≡ b → is_claim (word_at (item_table ds y) j column.class) ≡ is_claim (class_of (piece_at (pieces_of s) j))
      go true e = ap is_claim (class_at_lem ds y j (ltb-true j (length ds) e)) ∙ ap (λ (p : Piece). is_claim (class_of p)) (piece_is j)
      go false e =
          let l = ltb-false j (length ds) e in
          ap is_claim (word_past ds y j 0 l) ∙ sym (ap (λ (p : Piece). is_claim (class_of p)) (past_end (pieces_of s) j (omega (arith, dones_length))) ∙ empty_claim)

  pub claims_inside : (j : ℕ) → is_claim (class_of (piece_at (pieces_of s) j)) ≡ true → j < length ds
  claims_inside j h = go (ltb j (length ds)) refl
    where
      go : (b : Bool) → ltb j (length ds) ≡ b → j < length ds
      go true e = ltb-true j (length ds) e
      go false e =
          let l = ltb-false j (length ds) e in
          absurd (false≢true (sym empty_claim ∙ ap (λ (p : Piece). is_claim (class_of p)) (sym (past_end (pieces_of s) j (omega (arith, dones_length)))) ∙ h))

  pub name_element_lem : (j : ℕ) → is_claim (class_of (piece_at (pieces_of s) j)) ≡ true → at (elements s) (word_at (item_table ds y) j column.name) ≡ own_name (piece_at (pieces_of s) j)
  unfolding name_of
  name_element_lem j h =
      ap (at (elements s)) (name_at_lem ds y j inside ∙ ap (name_of (total (take j (pieces_done ds)))) place.0)
      ∙ sym (ap (λ (l : List Element). at l (total (take j (pieces_done ds)) + 1)) joins)
      ∙ second_at (pieces_done ds) j (omega (arith, inside, pieces_length ds)) (rw (pieces_at ds j) long)
      ∙ ap own_name (pieces_at ds j ∙ piece_is j)
    where
      inside : j < length ds
      inside = claims_inside j h

      place : ((piece_class (kinds_in_piece (done_at ds j).piece)).place ≡ 1) × (1 < length (kinds_in_piece (done_at ds j).piece))
      place = claim_place (kinds_in_piece (done_at ds j).piece) (ap (λ (p : Piece). is_claim (class_of p)) (piece_is j) ∙ h)

      long : 1 < length (done_at ds j).piece
      long = omega (arith, place.1, kinds_length (done_at ds j).piece)

  -- whatever values the records hold
  pub claims_element_lem : (e j : ℕ) → claims_element s (table_of s z) (item_table ds y) e j ≡ claims (at (elements s) e) (piece_at (pieces_of s) j)
  unfolding claims_element
  claims_element_lem e j =
      rw (claims_one (at (elements s) e) (piece_at (pieces_of s) j), claim_at j)
      (same_beside (is_claim (class_of (piece_at (pieces_of s) j))) (same_name s (table_of s z) (word_at (item_table ds y) j column.name) e) (same_as (own_name (piece_at (pieces_of s) j)) (at (elements s) e))
      (λ h. same_name_lem s z (word_at (item_table ds y) j column.name) e ∙ ap (λ (x : Element). same_as x (at (elements s) e)) (name_element_lem j h)))

-- ---- links

-- the first piece from number j on that claims a name, and one more; 0 where none does
abbrev pub first_in : Element → List Piece → ℕ → ℕ
first_in x [] j = 0
first_in x (p ∷ ps) j = cond (claims x p) (suc j) (first_in x ps (suc j))

no_first : (f : ℕ → Bool) (j m : ℕ) → ((k : ℕ) → f (j + k) ≡ false) → first_from f j m ≡ 0
unfolding first_from
no_first f j zero h = refl
no_first f j (suc m) h =
    let o : j ≡ j + 0 = omega arith in
    let e : f j ≡ false = ap f o ∙ h 0 in
    rw e (no_first f (suc j) m (λ k. let n : suc j + k ≡ j + suc k = omega arith in ap f n ∙ h (suc k)))

pub first_in_lem : (x : Element) (f : ℕ → Bool) (ps : List Piece) (j m : ℕ) → length ps ≤ m → ((k : ℕ) → f (j + k) ≡ claims x (piece_at ps k)) → first_from f j m ≡ first_in x ps j
unfolding first_from
first_in_lem x f [] j m l h = no_first f j m (λ k. h k ∙ none_claims x)
first_in_lem x f (p ∷ ps) j zero l h = absurd (omega arith)
first_in_lem x f (p ∷ ps) j (suc m) l h =
    let o : j ≡ j + 0 = omega arith in
    let e : f j ≡ claims x p = ap f o ∙ h 0 in
    rw e
    (ap (λ (n : ℕ). cond (claims x p) (suc j) n)
    (first_in_lem x f ps (suc j) m (omega arith) (λ k. let n : suc j + k ≡ j + suc k = omega arith in ap f n ∙ h (suc k))))

nothing_first : (ps : List Piece) (j : ℕ) → first_in nothing ps j ≡ 0
nothing_first [] j = refl
nothing_first (p ∷ ps) j = rw (nothing_claimed p) (nothing_first ps (suc j))

module _ (s : List ℕ) (z y : ℕ) (ds : List Done) (cuts : pieces_done ds ≡ pieces_of s) (few : length (pieces_of s) ≤ 1024) where
  pub records_room : length (pieces_of s) ≤ records_in (item_table ds y)
  unfolding records_in
  records_room = omega (arith, items_length ds y, dones_length s z y ds cuts)

  pub link : (e : ℕ) → link_of s (table_of s z) (item_table ds y) e ≡ first_in (at (elements s) e) (pieces_of s) 0
  unfolding link_of
  link e =
      first_in_lem (at (elements s) e) (claims_element s (table_of s z) (item_table ds y) e) (pieces_of s) 0 (records_in (item_table ds y)) records_room
      (λ k. ap (claims_element s (table_of s z) (item_table ds y) e) (zero-add k) ∙ claims_element_lem s z y ds cuts e k)

  -- the table of links, for every element; past the last there is nothing to claim
  pub link_table : (n : ℕ) → n ≡ length (rows_of s) → n ≤ 8192 → (e : ℕ) → get_or (links_table s (table_of s z) n (item_table ds y) 8192) e 0 ≡ first_in (at (elements s) e) (pieces_of s) 0
  unfolding links_table
  link_table n r m e = go (ltb e n) (ltb e 8192) refl refl
    where
      all : min n (length (table_of s z) / 3) ≡ n
      all = omega (arith, table_length s z)

      past : n ≤ e → first_in (at (elements s) e) (pieces_of s) 0 ≡ 0
      past h = rw (at_past (elements s) e (omega (arith, elements_length s (rows_of s)))) (nothing_first (pieces_of s) 0)

      go : (a b : Bool) → ltb e n ≡ a → ltb e 8192 ≡ b
          → get_or (filled (link_of s (table_of s z) (item_table ds y)) (min n (length (table_of s z) / 3)) 8192) e 0 ≡ first_in (at (elements s) e) (pieces_of s) 0
      go true b p q =
          let i = ltb-true e n p in
          filled_at (link_of s (table_of s z) (item_table ds y)) (min n (length (table_of s z) / 3)) 8192 e (omega arith) (omega (arith, all)) ∙ link e
      go false true p q =
          let i = ltb-false e n p in
          filled_past (link_of s (table_of s z) (item_table ds y)) (min n (length (table_of s z) / 3)) 8192 e (ltb-true e 8192 q) (omega (arith, all)) ∙ sym (past i)
      go false false p q =
          let i = ltb-false e n p in
          let k = ltb-false e 8192 q in
          get_or-eq_default (filled (link_of s (table_of s z) (item_table ds y)) (min n (length (table_of s z) / 3)) 8192) 0 {n = e} (omega (arith, filled_length (link_of s (table_of s z) (item_table ds y)) (min n (length (table_of s z) / 3)) 8192))
          ∙ sym (past i)
