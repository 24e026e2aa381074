-- A name is doubled where its record has a twin or the language claims it. Assumes nothing.
use mathlib.Core.Path.{◌≡◌, refl, sym, ap, ap₂, ◌∙◌, fun_ext}
use mathlib.Core.Bool.{Bool, true, false, cond, not, ◌&&◌, ◌||◌, false≢true}
use mathlib.Core.List.{List, [], ◌∷◌}
use Prim.Native.Nat.{ℕ, zero, suc, ◌+◌, ◌≤◌, ◌<◌}
use native.Mathlib.Omega.{arith}
use borrow.Author.Tests.{ltb-true, ltb-false, eqb-false, ne_eqb, le-leb, lt-leb, not-true}
use lib.Dec.{eqb, ltb, leb}
use lib.ListN.{length, get_or, take}
use Rattle.std.specs.Prelude.{Option, None}
use Rattle.laws.proofs.Laws.{both_left, both_right}
use Rattle.same_names.specs.Alike.{same_name, spelled_as}
use Rattle.places.specs.Places.{cell_at}
use Rattle.same_names.specs.Spelling.{spelt}
use Rattle.same_names.proofs.Sameness.{same_flips}
use Rattle.element_reading.specs.Rows.{rows_of}
use Rattle.element_reading.proofs.Promises.{stand_in_order}
use Rattle.pieces.specs.Kinds.{piece_class}
use Rattle.pieces.specs.Records.{name_of}
use Rattle.pairs.specs.code.Pairs.{later_of, pair_from}
use Rattle.records.specs.Records.{word_at, is_claim}
use Rattle.records.specs.Counting.{one_if}
use Rattle.names.specs.Language.{language_names}
use Rattle.names.specs.code.Language.{language_of}
use Rattle.names.specs.code.Names.{share, shared_pair}
use Rattle.names.specs.code.Links.{records_in, claims_element, another, twin_of, twins_table}
use Rattle.names.proofs.Firsts.{any_found, any_at}
use Rattle.names.proofs.Tables.{filled_at}
use Rattle.operands.specs.code.Operands.{bytes_at}
use Rattle.items.specs.code.Items.{doubled_in}
use Rattle.pieces.specs.Columns as column
use Rattle.meaning.specs.Elements.{Element, Piece, at}
use Rattle.meaning.specs.Pieces.{kinds_in_piece, pieces_of, class_of}
use Rattle.meaning.proofs.Cutting.{total}
use Rattle.meaning.proofs.Tables.{cell_word, element_at_lem, row_within, element_at}
use Rattle.meaning.specs.Names.{own_name, claims, language, claims_in, is_doubled, own_doubled, Done}
use Rattle.meaning.proofs.Records.{pieces_done, pieces_length, word_past}
use Rattle.meaning.proofs.Places.{table_of, elements}
use Rattle.meaning.proofs.Words.{piece_at, done_at, item_table, pieces_at, class_at_lem, name_at_lem}
use Rattle.meaning.proofs.Claims.{none_claims, same_beside, dones_length, claim_at, claims_inside, name_element_lem, claims_element_lem, records_room}
use Rattle.meaning.proofs.Claimed.{doubled_one}
use Rattle.meaning.proofs.Sameness.{both_ways, number_same, own_claimed, claimed_class}

-- ---- how many claims a name has

module _ (x : Element) where
  language_counts : (ps : List Piece) → one_if (not (eqb (language x) 0)) ≤ claims_in x ps
  unfolding claims_in
  language_counts [] = omega arith
  language_counts (p ∷ ps) = omega (arith, language_counts ps)

  pub claim_counts : (ps : List Piece) (i : ℕ) → claims x (piece_at ps i) ≡ true → 1 + one_if (not (eqb (language x) 0)) ≤ claims_in x ps
  unfolding claims_in
  claim_counts [] i h = absurd (false≢true (sym (none_claims x) ∙ h))
  claim_counts (p ∷ ps) zero h = let e : one_if (claims x p) ≡ 1 = ap one_if h in omega (arith, language_counts ps)
  claim_counts (p ∷ ps) (suc i) h = omega (arith, claim_counts ps i h)

  two_claims : (ps : List Piece) (i k : ℕ) → claims x (piece_at ps i) ≡ true → claims x (piece_at ps k) ≡ true → (i ≡ k → ⊥) → 2 ≤ claims_in x ps
  unfolding claims_in
  two_claims [] i k h g d = absurd (false≢true (sym (none_claims x) ∙ h))
  two_claims (p ∷ ps) zero zero h g d = absurd (d refl)
  two_claims (p ∷ ps) zero (suc k) h g d = let e : one_if (claims x p) ≡ 1 = ap one_if h in omega (arith, claim_counts ps k g)
  two_claims (p ∷ ps) (suc i) zero h g d = let e : one_if (claims x p) ≡ 1 = ap one_if g in omega (arith, claim_counts ps i h)
  two_claims (p ∷ ps) (suc i) (suc k) h g d = omega (arith, two_claims ps i k h g (λ e. d (ap suc e)))

  pub no_claims : (ps : List Piece) → ((k : ℕ) → claims x (piece_at ps k) ≡ false) → claims_in x ps ≡ one_if (not (eqb (language x) 0))
  unfolding claims_in
  no_claims [] h = refl
  no_claims (p ∷ ps) h = let e : one_if (claims x p) ≡ 0 = ap one_if (h 0) in omega (arith, no_claims ps (λ k. h (suc k)))

  one_claim : (ps : List Piece) (i : ℕ) → ((k : ℕ) → (i ≡ k → ⊥) → claims x (piece_at ps k) ≡ false) → claims_in x ps ≤ 1 + one_if (not (eqb (language x) 0))
  unfolding claims_in
  one_claim [] i h = omega arith
  one_claim (p ∷ ps) zero h = omega (arith, no_claims ps (λ k. h (suc k) (λ e. omega arith)), small (claims x p))
    where
      small : (b : Bool) → one_if b ≤ 1
      small true = omega arith
      small false = omega arith
  one_claim (p ∷ ps) (suc i) h =
      let e : one_if (claims x p) ≡ 0 = ap one_if (h 0 (λ e. omega arith)) in
      omega (arith, one_claim ps i (λ k d. h (suc k) (λ e. d (omega arith))))

-- ---- the language's names in the table

module _ (s : List ℕ) (z e : ℕ) where
  within_text : cell_at (table_of s z) e 1 + cell_at (table_of s z) e 2 ≤ length s
  within_text =
      rw (cell_word (rows_of s) z e 1 (omega arith), cell_word (rows_of s) z e 2 (omega arith)) (row_within (rows_of s) 0 (length s) e (stand_in_order s))

  spelled : (name : List ℕ) → spelled_as true s (table_of s z) e name ≡ spelt true (bytes_at s (table_of s z) e) name
  unfolding spelled_as bytes_at
  spelled name = rw (le-leb (cell_at (table_of s z) e 1 + cell_at (table_of s z) e 2) (length s) within_text)

  pub language_at : language_of s (table_of s z) e ≡ language (at (elements s) e)
  unfolding language_of element_at
  language_at =
      ap (λ (n : ℕ). cond (eqb (cell_at (table_of s z) e 0) 1) n 0)
      (number_same (spelled_as true s (table_of s z) e) (spelt true (bytes_at s (table_of s z) e)) spelled 1 language_names)
      ∙ ap language (element_at_lem s (rows_of s) z e)

-- ---- twins

module _ (s : List ℕ) (z y : ℕ) (ds : List Done) (cuts : pieces_done ds ≡ pieces_of s) (few : length (pieces_of s) ≤ 1024)
    (i : ℕ) (c : is_claim (class_of (piece_at (pieces_of s) i)) ≡ true) where
  -- a record that shares the i-th one's name claims it
  pub share_claims : (j : ℕ) → share s (table_of s z) (item_table ds y) i j ≡ claims (own_name (piece_at (pieces_of s) i)) (piece_at (pieces_of s) j)
  unfolding share claims_element
  share_claims j =
      rw (claim_at s z y ds cuts i ∙ c)
      (ap (λ (b : Bool). is_claim (word_at (item_table ds y) j column.class) && b) flip
      ∙ claims_element_lem s z y ds cuts (word_at (item_table ds y) i column.name) j
      ∙ ap (λ (x : Element). claims x (piece_at (pieces_of s) j)) (name_element_lem s z y ds cuts i c))
    where
      flip : same_name s (table_of s z) (word_at (item_table ds y) i column.name) (word_at (item_table ds y) j column.name) ≡ same_name s (table_of s z) (word_at (item_table ds y) j column.name) (word_at (item_table ds y) i column.name)
      flip =
          both_ways _ _ (same_flips s (table_of s z) (word_at (item_table ds y) i column.name) (word_at (item_table ds y) j column.name))
          (same_flips s (table_of s z) (word_at (item_table ds y) j column.name) (word_at (item_table ds y) i column.name))

  inside : i < records_in (item_table ds y)
  inside = omega (arith, claims_inside s z y ds cuts i c, records_room s z y ds cuts few, dones_length s z y ds cuts)

  pub twin_doubled : (twin_of s (table_of s z) (item_table ds y) i || not (eqb (language (own_name (piece_at (pieces_of s) i))) 0)) ≡ is_doubled (pieces_of s) (own_name (piece_at (pieces_of s) i))
  unfolding twin_of
  twin_doubled = go (twin_of s (table_of s z) (item_table ds y) i) refl
    where
      own : claims (own_name (piece_at (pieces_of s) i)) (piece_at (pieces_of s) i) ≡ true
      own = own_claimed (piece_at (pieces_of s) i) c

      other : (k : ℕ) (b : Bool) → claims (own_name (piece_at (pieces_of s) i)) (piece_at (pieces_of s) k) ≡ b → (i ≡ k → ⊥) → twin_of s (table_of s z) (item_table ds y) i ≡ false → b ≡ false
      other k false g d e = refl
      other k true g d e =
          let l = claims_inside s z y ds cuts k (claimed_class (own_name (piece_at (pieces_of s) i)) (piece_at (pieces_of s) k) g) in
          absurd (false≢true (sym e
          ∙ any_at (another (share s (table_of s z) (item_table ds y)) i) 0 (records_in (item_table ds y)) k (omega arith) (omega (arith, records_room s z y ds cuts few, dones_length s z y ds cuts)) (rw (ne_eqb i k d) (share_claims k ∙ g))))

      alone : twin_of s (table_of s z) (item_table ds y) i ≡ false → claims_in (own_name (piece_at (pieces_of s) i)) (pieces_of s) ≤ 1 + one_if (not (eqb (language (own_name (piece_at (pieces_of s) i))) 0))
      alone e = one_claim (own_name (piece_at (pieces_of s) i)) (pieces_of s) i (λ k d. other k (claims (own_name (piece_at (pieces_of s) i)) (piece_at (pieces_of s) k)) refl d e)

      by : (n l : ℕ) → 1 + one_if (not (eqb l 0)) ≤ n → n ≤ 1 + one_if (not (eqb l 0)) → not (eqb l 0) ≡ leb 2 n
      by n l a b = at_test (eqb l 0) a b
        where
          at_test : (t : Bool) → 1 + one_if (not t) ≤ n → n ≤ 1 + one_if (not t) → not t ≡ leb 2 n
          at_test true a b = sym (lt-leb 2 n (omega arith))
          at_test false a b = sym (le-leb 2 n (omega arith))

      go : (b : Bool) → twin_of s (table_of s z) (item_table ds y) i ≡ b → (b || not (eqb (language (own_name (piece_at (pieces_of s) i))) 0)) ≡ is_doubled (pieces_of s) (own_name (piece_at (pieces_of s) i))
      go true e =
          let w = any_found (another (share s (table_of s z) (item_table ds y)) i) 0 (records_in (item_table ds y)) e in
          let k = w.0 in
          let a = both_left (not (eqb i k)) (share s (table_of s z) (item_table ds y) i k) w.3 in
          let b = both_right (not (eqb i k)) (share s (table_of s z) (item_table ds y) i k) w.3 in
          sym (le-leb 2 (claims_in (own_name (piece_at (pieces_of s) i)) (pieces_of s))
          (two_claims (own_name (piece_at (pieces_of s) i)) (pieces_of s) i k own (sym (share_claims k) ∙ b) (eqb-false i k (not-true (eqb i k) a))))
      go false e =
          by (claims_in (own_name (piece_at (pieces_of s) i)) (pieces_of s)) (language (own_name (piece_at (pieces_of s) i)))
          (claim_counts (own_name (piece_at (pieces_of s) i)) (pieces_of s) i own) (alone e)

  -- by the table of twins, and the name's element in any table of the same pieces
  pub twin_word : get_or (twins_table s (table_of s z) (item_table ds y) 1024) i 0 ≡ one_if (twin_of s (table_of s z) (item_table ds y) i)
  unfolding twins_table
  twin_word =
      filled_at (λ (k : ℕ). one_if (twin_of s (table_of s z) (item_table ds y) k)) (records_in (item_table ds y)) 1024 i
      (omega (arith, claims_inside s z y ds cuts i c, dones_length s z y ds cuts)) inside

  module _ (cs : List Done) (v : ℕ) (also : pieces_done cs ≡ pieces_of s) where
    pub twins_doubled : (not (eqb (get_or (twins_table s (table_of s z) (item_table ds y) 1024) i 0) 0) || not (eqb (language_of s (table_of s z) (word_at (item_table cs v) i column.name)) 0))
        ≡ is_doubled (pieces_of s) (own_name (piece_at (pieces_of s) i))
    twins_doubled =
        ap₂ (λ (a b : ℕ). not (eqb a 0) || not (eqb b 0)) twin_word (language_at s z (word_at (item_table cs v) i column.name) ∙ ap language (name_element_lem s z v cs also i c))
        ∙ ap (λ (b : Bool). b || not (eqb (language (own_name (piece_at (pieces_of s) i))) 0)) (told (twin_of s (table_of s z) (item_table ds y) i))
        ∙ twin_doubled
      where
        told : (b : Bool) → not (eqb (one_if b) 0) ≡ b
        told true = refl
        told false = refl

-- a record's name is doubled as its piece's is
pub doubled_in_lem : (s : List ℕ) (z y : ℕ) (ds : List Done) (cuts : pieces_done ds ≡ pieces_of s) (few : length (pieces_of s) ≤ 1024) (cs : List Done) (v : ℕ) (also : pieces_done cs ≡ pieces_of s) (i : ℕ)
    → doubled_in s (table_of s z) (twins_table s (table_of s z) (item_table ds y) 1024) (item_table cs v) i ≡ own_doubled (pieces_of s) (piece_at (pieces_of s) i)
unfolding doubled_in
doubled_in_lem s z y ds cuts few cs v also i =
    ap (λ (b : Bool). b && (not (eqb (get_or (twins_table s (table_of s z) (item_table ds y) 1024) i 0) 0) || not (eqb (language_of s (table_of s z) (word_at (item_table cs v) i column.name)) 0))) (claim_at s z v cs also i)
    ∙ same_beside (is_claim (class_of (piece_at (pieces_of s) i))) _ _ (λ c. twins_doubled s z y ds cuts few i c cs v also)
    ∙ sym (doubled_one (pieces_of s) (piece_at (pieces_of s) i))

-- ---- sharing does not depend on what the pieces come to

module _ (ds cs : List Done) (y v : ℕ) (one : pieces_done ds ≡ pieces_done cs) where
  same_length : length ds ≡ length cs
  same_length = sym (pieces_length ds) ∙ ap length one ∙ pieces_length cs

  same_piece : (j : ℕ) → (done_at ds j).piece ≡ (done_at cs j).piece
  same_piece j = sym (pieces_at ds j) ∙ ap (λ (ps : List Piece). piece_at ps j) one ∙ pieces_at cs j

  pub class_same : (j : ℕ) → word_at (item_table ds y) j column.class ≡ word_at (item_table cs v) j column.class
  class_same j = go (ltb j (length ds)) refl
    where
      go : (b : Bool) → ltb j (length ds) ≡ b → word_at (item_table ds y) j column.class ≡ word_at (item_table cs v) j column.class
      go true e =
          let h = ltb-true j (length ds) e in
          class_at_lem ds y j h ∙ ap class_of (same_piece j) ∙ sym (class_at_lem cs v j (omega (arith, same_length)))
      go false e = let h = ltb-false j (length ds) e in word_past ds y j 0 h ∙ sym (word_past cs v j 0 (omega (arith, same_length)))

  pub name_same : (j : ℕ) → word_at (item_table ds y) j column.name ≡ word_at (item_table cs v) j column.name
  name_same j = go (ltb j (length ds)) refl
    where
      go : (b : Bool) → ltb j (length ds) ≡ b → word_at (item_table ds y) j column.name ≡ word_at (item_table cs v) j column.name
      go true e =
          let h = ltb-true j (length ds) e in
          name_at_lem ds y j h
          ∙ ap₂ (λ (ps : List Piece) (p : Piece). name_of (total (take j ps)) (piece_class (kinds_in_piece p)).place) one (same_piece j)
          ∙ sym (name_at_lem cs v j (omega (arith, same_length)))
      go false e = let h = ltb-false j (length ds) e in word_past ds y j 3 h ∙ sym (word_past cs v j 3 (omega (arith, same_length)))

  module _ (text table : List ℕ) where
    pub share_same : (i j : ℕ) → share text table (item_table ds y) i j ≡ share text table (item_table cs v) i j
    unfolding share
    share_same i j = cc (class_same i, class_same j, name_same i, name_same j)

    pub pair_same : (n : ℕ) → shared_pair text table (item_table ds y) n ≡ shared_pair text table (item_table cs v) n
    unfolding shared_pair
    pair_same n = ap (λ (f : ℕ → ℕ → Bool). pair_from f 0 n) (fun_ext (λ i. fun_ext (λ j. share_same i j)))

-- ---- where no record has a twin, no pair shares a name

later_none : (f : ℕ → ℕ → Bool) (i j m : ℕ) (o : Option (ℕ × ℕ)) → ((b : ℕ) → j ≤ b → b < j + m → f i b ≡ false) → later_of f i j m o ≡ o
unfolding later_of
later_none f i j zero o h = refl
later_none f i j (suc m) o h = rw (h j (omega arith) (omega arith), later_of) (later_none f i (suc j) m o (λ b l g. h b (omega arith) (omega arith)))

pair_none : (f : ℕ → ℕ → Bool) (i m : ℕ) → ((a b : ℕ) → i ≤ a → a < b → b < i + m → f a b ≡ false) → pair_from f i m ≡ None
unfolding pair_from
pair_none f i zero h = refl
pair_none f i (suc m) h =
    later_none f i (suc i) m (pair_from f (suc i) m) (λ b l g. h i b (omega arith) (omega arith) (omega arith))
    ∙ pair_none f (suc i) m (λ a b k l g. h a b (omega arith) l (omega arith))
