-- A name used, by the tables, comes to what it comes to by the pieces above. Assumes nothing.
use mathlib.Core.Path.{◌≡◌, refl, sym, ap, subst, ◌∙◌}
use mathlib.Core.Logic.{◌⊎◌, inl, inr}
use mathlib.Core.Bool.{Bool, true, false, cond, not, ◌&&◌, ◌||◌, false≢true}
use mathlib.Core.List.{List, [], ◌∷◌, ◌++◌}
use Prim.Native.Nat.{ℕ, zero, suc, ◌+◌, ◌-◌, ◌≤◌, ◌<◌}
use native.Mathlib.Omega.{arith}
use borrow.Author.Tests.{eqb-true, eqb-false, le-leb, lt-leb}
use lib.Dec.{eqb}
use lib.ListN.{length, get_or, length-append, get_or-append}
use Rattle.same_names.specs.Spelling.{spelt}
use Rattle.element_reading.specs.Rows.{rows_of}
use Rattle.records.specs.Records.{word_at, is_item, is_claim}
use Rattle.records.specs.Counting.{one_if}
use Rattle.names.specs.Language.{language_names, language_number}
use Rattle.names.specs.code.Language.{language_of}
use Rattle.names.specs.code.Links.{links_table}
use Rattle.values.specs.Values.{language_value, lean_of}
use Rattle.values.specs.ValueWords.{state_of, value_kind, low_of, high_of}
use Rattle.values.specs.declared.Value.{Value}
use Rattle.values.specs.declared.Value.TheVariants.{Without}
use Rattle.marks.proofs.Laws.{Fits, used_lean}
use Rattle.uses.specs.code.Uses.{record_value, use_in}
use Rattle.uses.proofs.Laws.{claimed_too, of_language, no_claim, above, below}
use Rattle.pieces.specs.Columns as column
use Rattle.states.specs.States as state
use Rattle.meaning.specs.Elements.{Element, Piece, at}
use Rattle.meaning.specs.Pieces.{pieces_of, class_of}
use Rattle.meaning.specs.Names.{own_name, claims, language, claims_in, is_doubled, Done, claimed_above, first_above, use_of}
use Rattle.meaning.specs.Records.{item_value_words}
use Rattle.meaning.proofs.Claimed.{doubled_one}
use Rattle.meaning.proofs.Good.{GoodDone, Good}
use Rattle.meaning.proofs.Records.{pending, pieces_done, pieces_append}
use Rattle.meaning.proofs.Places.{table_of, elements}
use Rattle.meaning.proofs.Words.{piece_at, done_at, item_table, class_at_lem, value_word}
use Rattle.meaning.proofs.Claims.{none_claims, first_in, link_table}
use Rattle.meaning.proofs.Sameness.{claimed_class, claimed_doubled}
use Rattle.meaning.proofs.Doubles.{claim_counts, no_claims, language_at}

-- ---- the first claim, among the pieces above and those below

-- the f-th above
record Found (x : Element) (ds : List Done) (rest : List Piece) (j : ℕ) : Type 0 where
  number : ℕ
  inside : number < length ds
  claimed : claims x (done_at ds number).piece ≡ true
  first : first_in x (pieces_done ds ++ rest) j ≡ suc (j + number)
  is_above : claimed_above x ds ≡ true
  comes_to : first_above x ds ≡ (done_at ds number).value

-- none above but perhaps the language
record None (x : Element) (ds : List Done) (rest : List Piece) (j : ℕ) : Type 0 where
  later : first_in x (pieces_done ds ++ rest) j ≡ first_in x rest (j + length ds)
  spoken : claimed_above x ds ≡ not (eqb (language x) 0)
  spoken_as : first_above x ds ≡ language_value (language x)

module _ (x : Element) where
  first_above_lem : (ds : List Done) (rest : List Piece) (j : ℕ) → Found x ds rest j ⊎ None x ds rest j
  unfolding claimed_above first_above pieces_done
  first_above_lem [] rest j =
      let o : j ≡ j + 0 = omega arith in inr record { later = ap (first_in x rest) o; spoken = refl; spoken_as = refl }
  first_above_lem (d ∷ ds) rest j = go (claims x d.piece) refl (first_above_lem ds rest (suc j))
    where
      go : (b : Bool) → claims x d.piece ≡ b → Found x ds rest (suc j) ⊎ None x ds rest (suc j) → Found x (d ∷ ds) rest j ⊎ None x (d ∷ ds) rest j
      go true e r =
          inl record {
            number = 0;
            inside = omega arith;
            claimed = e;
            first = let o : suc j ≡ suc (j + 0) = omega arith in rw e o;
            is_above = rw e;
            comes_to = rw (e, first_above);
          }
      go false e (inl r) =
          let n : suc (suc j + r.number) ≡ suc (j + suc r.number) = omega arith in
          inl record {
            number = suc r.number;
            inside = omega (arith, r.inside);
            claimed = r.claimed;
            first = rw e (r.first ∙ n);
            is_above = rw e r.is_above;
            comes_to = rw (e, first_above) r.comes_to;
          }
      go false e (inr r) =
          let n : suc j + length ds ≡ j + suc (length ds) = omega arith in
          inr record { later = rw e (r.later ∙ ap (first_in x rest) n); spoken = rw e r.spoken; spoken_as = rw (e, first_above) r.spoken_as }

  -- a first one is not before where it is looked for
  first_from_lem : (ps : List Piece) (j f : ℕ) → first_in x ps j ≡ suc f → j ≤ f
  first_from_lem [] j f h = absurd (omega arith)
  first_from_lem (p ∷ ps) j f h = go (claims x p) refl (λ g. first_from_lem ps (suc j) f g)
    where
      go : (b : Bool) → claims x p ≡ b → (first_in x ps (suc j) ≡ suc f → suc j ≤ f) → j ≤ f
      go true e r = let z : suc j ≡ suc f = sym (rw e) ∙ h in omega arith
      go false e r = let z : suc j ≤ f = r (sym (rw e) ∙ h) in omega arith

  first_some : (ps : List Piece) (j f : ℕ) → first_in x ps j ≡ suc f → (k : ℕ) × (claims x (piece_at ps k) ≡ true)
  first_some [] j f h = absurd (omega arith)
  first_some (p ∷ ps) j f h = go (claims x p) refl (λ g. first_some ps (suc j) f g)
    where
      go : (b : Bool) → claims x p ≡ b → (first_in x ps (suc j) ≡ suc f → (k : ℕ) × (claims x (piece_at ps k) ≡ true)) → (k : ℕ) × (claims x (piece_at (p ∷ ps) k) ≡ true)
      go true e r = (0, e)
      go false e r = let w = r (sym (rw e) ∙ h) in (suc w.0, w.1)

  first_none : (ps : List Piece) (j : ℕ) → first_in x ps j ≡ 0 → (k : ℕ) → claims x (piece_at ps k) ≡ false
  first_none [] j h k = none_claims x
  first_none (p ∷ ps) j h k = go (claims x p) refl (λ g i. first_none ps (suc j) g i) k
    where
      go : (b : Bool) → claims x p ≡ b → (first_in x ps (suc j) ≡ 0 → (i : ℕ) → claims x (piece_at ps i) ≡ false) → (i : ℕ) → claims x (piece_at (p ∷ ps) i) ≡ false
      go true e r i = let z : suc j ≡ 0 = sym (rw e) ∙ h in absurd (omega arith)
      go false e r zero = e
      go false e r (suc i) = r (sym (rw e) ∙ h) i

-- ---- the language's names

number_most : (p : List ℕ → Bool) (k : ℕ) (ws : List (List ℕ)) → 1 ≤ k → language_number p k ws < k + length ws
number_most p k [] h = omega arith
number_most p k (w ∷ ws) h = go (p w) (number_most p (suc k) ws (omega arith))
  where
    go : (b : Bool) → language_number p (suc k) ws < suc k + length ws → cond b k (language_number p (suc k) ws) < k + suc (length ws)
    go true r = omega arith
    go false r = omega arith

language_most : (x : Element) → language x ≤ 6
language_most x = go (eqb x.kind 1)
  where
    go : (b : Bool) → cond b (language_number (spelt true x.bytes) 1 language_names) 0 ≤ 6
    go true = omega (arith, number_most (spelt true x.bytes) 1 language_names (omega arith))
    go false = omega arith

language_lean : (k : ℕ) → k ≤ 6 → (k ≡ 0 → ⊥) → lean_of (language_value k) ≡ language_value k
unfolding language_value
language_lean zero h d = absurd (d refl)
language_lean (suc zero) h d = refl
language_lean (suc (suc zero)) h d = refl
language_lean (suc (suc (suc zero))) h d = refl
language_lean (suc (suc (suc (suc zero)))) h d = refl
language_lean (suc (suc (suc (suc (suc zero))))) h d = refl
language_lean (suc (suc (suc (suc (suc (suc zero)))))) h d = refl
language_lean (suc (suc (suc (suc (suc (suc (suc k))))))) h d = absurd (omega arith)

-- ---- what a record gives

good_at : (all : List Piece) (ds : List Done) (f : ℕ) → f < length ds → Good all ds → GoodDone all (done_at ds f)
good_at all [] f h g = absurd (omega arith)
good_at all (d ∷ ds) zero h g = g.0
good_at all (d ∷ ds) (suc f) h g = good_at all ds f (omega arith) g.1

pub claim_item : (c : ℕ) → is_claim c ≡ true → is_item c ≡ true
claim_item c h = go (eqb c 3) (eqb c 4) (eqb c 5) h
  where
    go : (a b d : Bool) → (a || b) ≡ true → ((a || b) || d) ≡ true
    go true b d e = refl
    go false true d e = refl
    go false false d e = absurd (false≢true e)

record_gives : (ds : List Done) (y f : ℕ) → f < length ds → is_claim (class_of (done_at ds f).piece) ≡ true → Fits (class_of (done_at ds f).piece) (done_at ds f).value
    → record_value (item_table ds y) f ≡ lean_of (done_at ds f).value
unfolding record_value
record_gives ds y f h c fits =
    let v = (done_at ds f).value in
    let item : (k : ℕ) → get_or (item_value_words (is_item (class_of (done_at ds f).piece)) (done_at ds f).value) k 0 ≡ get_or (item_value_words true (done_at ds f).value) k 0 =
    λ k. ap (λ (b : Bool). get_or (item_value_words b (done_at ds f).value) k 0) (claim_item (class_of (done_at ds f).piece) c) in
    let a : word_at (item_table ds y) f column.state ≡ state_of v = value_word ds y f h 0 (omega arith) ∙ item 0 in
    let b : word_at (item_table ds y) f column.kind ≡ value_kind v = value_word ds y f h 1 (omega arith) ∙ item 1 in
    let d : word_at (item_table ds y) f column.low ≡ low_of v = value_word ds y f h 2 (omega arith) ∙ item 2 in
    let e : word_at (item_table ds y) f column.high ≡ high_of v = value_word ds y f h 3 (omega arith) ∙ item 3 in
    rw (class_at_lem ds y f h, a, b, d, e) (used_lean (class_of (done_at ds f).piece) (done_at ds f).value fits)

-- the same, of a piece done that is known by another name
record_is : (ds : List Done) (y f : ℕ) → f < length ds → (d : Done) → done_at ds f ≡ d → is_claim (class_of d.piece) ≡ true → Fits (class_of d.piece) d.value
    → record_value (item_table ds y) f ≡ lean_of d.value
record_is ds y f h d is c fits =
    record_gives ds y f h (ap (λ (q : Done). is_claim (class_of q.piece)) is ∙ c) (subst (λ (q : Done). Fits (class_of q.piece) q.value) (sym is) fits)
    ∙ ap (λ (q : Done). lean_of q.value) is

-- ---- the use

-- what a use comes to, by its parts
use_of_lem : (all : List Piece) (ds : List Done) (x : Element) (a d : Bool) (v : Value) → claimed_above x ds ≡ a → is_doubled all x ≡ d → first_above x ds ≡ v
    → use_of all ds x ≡ cond a (cond d (Without state.leans) (lean_of v)) (Without state.unknown)
unfolding use_of
use_of_lem all ds x a d v p q r = cc (p, q, r)

module _ (all : List Piece) (x : Element) where
  spoken_twice : (k : ℕ) → claims x (piece_at all k) ≡ true → eqb (language x) 0 ≡ false → is_doubled all x ≡ true
  spoken_twice k h e =
      let m : one_if (not (eqb (language x) 0)) ≡ 1 = ap (λ (b : Bool). one_if (not b)) e in
      le-leb 2 (claims_in x all) (omega (arith, claim_counts x all k h))

  spoken_once : ((k : ℕ) → claims x (piece_at all k) ≡ false) → is_doubled all x ≡ false
  spoken_once h = lt-leb 2 (claims_in x all) (omega (arith, no_claims x all h, small (not (eqb (language x) 0))))
    where
      small : (b : Bool) → one_if b ≤ 1
      small true = omega arith
      small false = omega arith

module _ (s : List ℕ) (z y : ℕ) (ds more : List Done) (cuts : pieces_done (ds ++ more) ≡ pieces_of s) (links : List ℕ)
    (linked : (e : ℕ) → get_or links e 0 ≡ first_in (at (elements s) e) (pieces_of s) 0) (good : Good (pieces_of s) ds) (e : ℕ) where
  whole : pieces_of s ≡ pieces_done ds ++ pieces_done more
  whole = sym cuts ∙ pieces_append ds more

  spoken_at : language (at (elements s) e) ≡ language_of s (table_of s z) e
  spoken_at = sym (language_at s z e)

  linked_at : (l : ℕ) → first_in (at (elements s) e) (pieces_of s) 0 ≡ l → l ≡ get_or links e 0
  linked_at l h = sym (linked e ∙ h)

  -- what the record of a claim above gives
  found_gives : (r : Found (at (elements s) e) ds (pieces_done more) 0) → record_value (item_table (ds ++ more) y) r.number ≡ lean_of (done_at ds r.number).value
  found_gives r =
      let i = r.inside in
      let c = claimed_class (at (elements s) e) (done_at ds r.number).piece r.claimed in
      record_is (ds ++ more) y r.number (omega (arith, length-append ds more)) (done_at ds r.number) (get_or-append ds more (pending []) r.number i) c
      (good_at (pieces_of s) ds r.number i good c).0

  found_use : (r : Found (at (elements s) e) ds (pieces_done more) 0) (d : Bool) → is_doubled (pieces_of s) (at (elements s) e) ≡ d
      → lean_of (done_at ds r.number).value ≡ cond d (Without state.leans) (lean_of (done_at ds r.number).value)
  found_use r false q = refl
  found_use r true q =
      let p = (done_at ds r.number).piece in
      let c = claimed_class (at (elements s) e) p r.claimed in
      (good_at (pieces_of s) ds r.number r.inside good c).1 (doubled_one (pieces_of s) p ∙ both_so (is_claim (class_of p)) (is_doubled (pieces_of s) (own_name p)) c (sym (claimed_doubled (at (elements s) e) p r.claimed (pieces_of s)) ∙ q))
    where
      both_so : (a b : Bool) → a ≡ true → b ≡ true → (a && b) ≡ true
      both_so true b h g = g
      both_so false b h g = h

  found_first : (r : Found (at (elements s) e) ds (pieces_done more) 0) → first_in (at (elements s) e) (pieces_of s) 0 ≡ suc r.number
  found_first r =
      let o : suc (0 + r.number) ≡ suc r.number = omega arith in
      ap (λ (ps : List Piece). first_in (at (elements s) e) ps 0) whole ∙ r.first ∙ o

  use_found : (r : Found (at (elements s) e) ds (pieces_done more) 0) (b : Bool) → eqb (language (at (elements s) e)) 0 ≡ b
      → use_in s (table_of s z) (item_table (ds ++ more) y) links (length ds) e ≡ use_of (pieces_of s) ds (at (elements s) e)
  use_found r true k =
      let x = at (elements s) e in
      let items = item_table (ds ++ more) y in
      let f = r.number in
      let i = r.inside in
      let o : suc f - 1 ≡ f = omega arith in
      sym (above s (table_of s z) items links (length ds) e (language x) (suc f) spoken_at (linked_at (suc f) (found_first r)) (record_value items (suc f - 1)) (eqb-true (language x) 0 k) (λ w. omega arith) (omega arith) refl)
      ∙ ap (record_value items) o
      ∙ found_gives r
      ∙ found_use r (is_doubled (pieces_of s) x) refl
      ∙ sym (use_of_lem (pieces_of s) ds x true (is_doubled (pieces_of s) x) (done_at ds f).value r.is_above refl r.comes_to)
  use_found r false k =
      let x = at (elements s) e in
      let f = r.number in
      let w = first_some x (pieces_of s) 0 f (found_first r) in
      sym (claimed_too s (table_of s z) (item_table (ds ++ more) y) links (length ds) e (language x) (suc f) spoken_at (linked_at (suc f) (found_first r)) (eqb-false (language x) 0 k) (λ v. omega arith))
      ∙ sym (use_of_lem (pieces_of s) ds x true true (first_above x ds) r.is_above (spoken_twice (pieces_of s) x w.0 w.1 k) refl)

  use_none : (r : None (at (elements s) e) ds (pieces_done more) 0) (l : ℕ) → first_in (at (elements s) e) (pieces_of s) 0 ≡ l → (b : Bool) → eqb (language (at (elements s) e)) 0 ≡ b
      → use_in s (table_of s z) (item_table (ds ++ more) y) links (length ds) e ≡ use_of (pieces_of s) ds (at (elements s) e)
  use_none r zero h true k =
      let x = at (elements s) e in
      sym (no_claim s (table_of s z) (item_table (ds ++ more) y) links (length ds) e (language x) 0 spoken_at (linked_at 0 h) (eqb-true (language x) 0 k) refl)
      ∙ sym (use_of_lem (pieces_of s) ds x false (is_doubled (pieces_of s) x) (first_above x ds) (r.spoken ∙ ap not k) refl refl)
  use_none r (suc f) h true k =
      let x = at (elements s) e in
      let g = first_from_lem x (pieces_done more) (0 + length ds) f (sym r.later ∙ ap (λ (ps : List Piece). first_in x ps 0) (sym whole) ∙ h) in
      sym (below s (table_of s z) (item_table (ds ++ more) y) links (length ds) e (language x) (suc f) spoken_at (linked_at (suc f) h) (eqb-true (language x) 0 k) (λ v. omega arith) (omega arith))
      ∙ sym (use_of_lem (pieces_of s) ds x false (is_doubled (pieces_of s) x) (first_above x ds) (r.spoken ∙ ap not k) refl refl)
  use_none r zero h false k =
      let x = at (elements s) e in
      sym (of_language s (table_of s z) (item_table (ds ++ more) y) links (length ds) e (language x) 0 spoken_at (linked_at 0 h) (language_value (language x)) (eqb-false (language x) 0 k) refl refl)
      ∙ sym (use_of_lem (pieces_of s) ds x true false (language_value (language x)) (r.spoken ∙ ap not k) (spoken_once (pieces_of s) x (first_none x (pieces_of s) 0 h)) r.spoken_as
      ∙ language_lean (language x) (language_most x) (eqb-false (language x) 0 k))
  use_none r (suc f) h false k =
      let x = at (elements s) e in
      let w = first_some x (pieces_of s) 0 f h in
      sym (claimed_too s (table_of s z) (item_table (ds ++ more) y) links (length ds) e (language x) (suc f) spoken_at (linked_at (suc f) h) (eqb-false (language x) 0 k) (λ v. omega arith))
      ∙ sym (use_of_lem (pieces_of s) ds x true true (first_above x ds) (r.spoken ∙ ap not k) (spoken_twice (pieces_of s) x w.0 w.1 k) refl)

  -- a name used in the piece below those done
  pub use_in_lem : use_in s (table_of s z) (item_table (ds ++ more) y) links (length ds) e ≡ use_of (pieces_of s) ds (at (elements s) e)
  use_in_lem = go (first_above_lem (at (elements s) e) ds (pieces_done more) 0)
    where
      go : Found (at (elements s) e) ds (pieces_done more) 0 ⊎ None (at (elements s) e) ds (pieces_done more) 0
          → use_in s (table_of s z) (item_table (ds ++ more) y) links (length ds) e ≡ use_of (pieces_of s) ds (at (elements s) e)
      go (inl r) = use_found r (eqb (language (at (elements s) e)) 0) refl
      go (inr r) = use_none r (first_in (at (elements s) e) (pieces_of s) 0) refl (eqb (language (at (elements s) e)) 0) refl

-- with the links that a table of the same pieces gives
pub use_linked : (s : List ℕ) (z y : ℕ) (ds more : List Done) (cuts : pieces_done (ds ++ more) ≡ pieces_of s) (few : length (pieces_of s) ≤ 1024) (cs : List Done) (v : ℕ) (also : pieces_done cs ≡ pieces_of s) (n : ℕ)
    → n ≡ length (rows_of s) → n ≤ 8192 → Good (pieces_of s) ds → (e : ℕ)
    → use_in s (table_of s z) (item_table (ds ++ more) y) (links_table s (table_of s z) n (item_table cs v) 8192) (length ds) e ≡ use_of (pieces_of s) ds (at (elements s) e)
use_linked s z y ds more cuts few cs v also n r m good e =
    use_in_lem s z y ds more cuts (links_table s (table_of s z) n (item_table cs v) 8192) (link_table s z v cs also few n r m) good e
