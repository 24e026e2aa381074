-- Every item of a text is counted in one of the eleven states: record by record, an item's state is met once among 0 to 10, and that of a
-- heading or closing, 11, is never met. Assumes nothing.
use Prim.Native.Nat.{ℕ, zero, suc, ◌+◌, ◌≤◌, ◌<◌}
use mathlib.Core.Path.{◌≡◌, refl, sym, ap, ap₂, ◌∙◌}
use mathlib.Core.Bool.{Bool, true, false, cond}
use mathlib.Core.List.{List, [], ◌∷◌, ◌++◌, append_assoc}
use native.Mathlib.Omega.{arith}
use borrow.Author.Tests.{eqb-true, eqb-false, ne_eqb}
use lib.Dec.{eqb}
use lib.ListN.{length, get_or, length-append}
use Rattle.records.specs.Records.{is_item, item_state}
use Rattle.records.specs.Tallies.{in_state, counts_from, tally_of}
use Rattle.records.specs.Counting.{one_if}
use Rattle.values.specs.ValueWords as words
use Rattle.meaning.specs.Elements.{Piece}
use Rattle.meaning.specs.Pieces.{pieces_of, class_of}
use Rattle.meaning.specs.Names.{Done}
use Rattle.meaning.specs.code.PieceValues.{value_of, done_of, dones_from, dones_of, records_of}
use Rattle.meaning.specs.Records.{item_value_words, record_of, records_from}
use Rattle.meaning.specs.code.Promises.{items_among, sum}
use Rattle.meaning.proofs.Records.{word_at_record}

-- ---- a state among m from k on

unfoldable hits : ℕ → ℕ → ℕ → ℕ
hits s k zero = 0
hits s k (suc m) = one_if (eqb s k) + hits s (suc k) m

hits_below : (s k m : ℕ) → s < k → hits s k m ≡ 0
unfolding hits
hits_below s k zero h = refl
hits_below s k (suc m) h = omega (arith, ap one_if (ne_eqb s k (λ e. omega arith)), hits_below s (suc k) m (omega arith))

hits_past : (s k m : ℕ) → k + m ≤ s → hits s k m ≡ 0
unfolding hits
hits_past s k zero h = refl
hits_past s k (suc m) h = omega (arith, ap one_if (ne_eqb s k (λ e. omega arith)), hits_past s (suc k) m (omega arith))

hits_once : (s k m : ℕ) → k ≤ s → s < k + m → hits s k m ≡ 1
unfolding hits
hits_once s k zero h l = absurd (omega arith)
hits_once s k (suc m) h l = go (eqb s k) refl (λ d. hits_once s (suc k) m d (omega arith))
  where
    go : (b : Bool) → eqb s k ≡ b → (suc k ≤ s → hits s (suc k) m ≡ 1) → one_if b + hits s (suc k) m ≡ 1
    go true e again = let z = eqb-true s k e in omega (arith, hits_below s (suc k) m (omega arith))
    go false e again = let z = eqb-false s k e in omega (arith, again (omega arith))

-- ---- the counts of n records from the i-th on, of m states from k on

unfoldable spread : List ℕ → ℕ → ℕ → ℕ → ℕ → ℕ
spread items i n k zero = 0
spread items i n k (suc m) = in_state k items i n + spread items i n (suc k) m

sum_spread : (items : List ℕ) (n k m : ℕ) → sum (counts_from items n k m) ≡ spread items 0 n k m
unfolding counts_from spread
sum_spread items n k zero = refl
sum_spread items n k (suc m) = ap (λ (x : ℕ). in_state k items 0 n + x) (sum_spread items n (suc k) m)

spread_none : (items : List ℕ) (i k m : ℕ) → spread items i 0 k m ≡ 0
unfolding spread in_state
spread_none items i k zero = refl
spread_none items i k (suc m) = omega (arith, spread_none items i (suc k) m)

spread_more : (items : List ℕ) (i n k m : ℕ) → spread items i (suc n) k m ≡ hits (item_state items i) k m + spread items (suc i) n k m
unfolding spread hits in_state
spread_more items i n k zero = refl
spread_more items i n k (suc m) = omega (arith, spread_more items i n (suc k) m)

-- ---- records

module _ (ds es : List Done) (d : Done) (rest : List ℕ) where
  -- the state of a record, which is 11 where the piece is no item
  pub state_at_lem : item_state (records_from 0 (ds ++ d ∷ es) ++ rest) (length ds) ≡ cond (is_item (class_of d.piece)) (words.state_of d.value) 11
  unfolding item_state record_of
  state_at_lem =
      ap₂ (λ (c s : ℕ). cond (is_item c) s 11) (word_at_record ds es d rest 0 (omega arith)) (word_at_record ds es d rest 4 (omega arith))
      ∙ go (is_item (class_of d.piece))
    where
      go : (b : Bool) → cond b (get_or (item_value_words b d.value) 0 0) 11 ≡ cond b (words.state_of d.value) 11
      go true = refl
      go false = refl

  counted_once : words.state_of d.value ≤ 10 → hits (item_state (records_from 0 (ds ++ d ∷ es) ++ rest) (length ds)) 0 11 ≡ one_if (is_item (class_of d.piece))
  counted_once h = ap (λ (s : ℕ). hits s 0 11) state_at_lem ∙ go (is_item (class_of d.piece))
    where
      go : (b : Bool) → hits (cond b (words.state_of d.value) 11) 0 11 ≡ one_if b
      go true = hits_once (words.state_of d.value) 0 11 (omega arith) (omega arith)
      go false = hits_past 11 0 11 (omega arith)

-- where every piece comes to one of the eleven states
module _ (known : (all : List Piece) (above : List Done) (p : Piece) → words.state_of (value_of all above p) ≤ 10) (all : List Piece) (items rest : List ℕ) where
  counted_from : (above : List Done) (ps : List Piece) → items ≡ records_from 0 (above ++ dones_from all above ps) ++ rest → spread items (length above) (length ps) 0 11 ≡ items_among ps
  unfolding dones_from
  counted_from above [] e = spread_none items (length above) 0 11
  counted_from above (p ∷ ps) e =
      let d = done_of all above p in
      let es = dones_from all (above ++ d ∷ []) ps in
      let here : hits (item_state items (length above)) 0 11 ≡ one_if (is_item (class_of p))
      = ap (λ (l : List ℕ). hits (item_state l (length above)) 0 11) e ∙ counted_once above es d rest (known all above p) in
      let again : spread items (length (above ++ d ∷ [])) (length ps) 0 11 ≡ items_among ps
      = counted_from (above ++ d ∷ []) ps (e ∙ ap (λ (l : List Done). records_from 0 l ++ rest) (sym (append_assoc above (d ∷ []) es))) in
      let size : length (above ++ d ∷ []) ≡ suc (length above) = omega (arith, length-append above (d ∷ [])) in
      spread_more items (length above) (length ps) 0 11
      ∙ ap₂ ◌+◌ here (ap (λ (i : ℕ). spread items i (length ps) 0 11) (sym size) ∙ again)

pub all_counted_by : ((all : List Piece) (above : List Done) (p : Piece) → words.state_of (value_of all above p) ≤ 10)
    → (text rest : List ℕ) → sum (tally_of (records_of text ++ rest) (length (pieces_of text))).counts ≡ items_among (pieces_of text)
unfolding tally_of records_of dones_of
all_counted_by known text rest =
    sum_spread (records_of text ++ rest) (length (pieces_of text)) 0 11
    ∙ counted_from known (pieces_of text) (records_of text ++ rest) rest [] (pieces_of text) refl
