-- First pair and tally of a text's records are those of its pieces. Assumes nothing.
use mathlib.Core.Path.{◌≡◌, refl, sym, ap, ap₂, subst, ◌∙◌, fun_ext}
use mathlib.Core.Bool.{Bool, true, false, cond, ◌&&◌, false≢true}
use mathlib.Core.List.{List, [], ◌∷◌, ◌++◌, append_assoc}
use Prim.Native.Nat.{ℕ, zero, suc, ◌+◌, ◌≤◌, ◌<◌}
use native.Mathlib.Omega.{arith}
use borrow.Author.Tests.{eqb-true, eqb-false, eq-eqb, ne_eqb, ltb-true, ltb-false}
use lib.Dec.{eqb, ltb}
use lib.ListN.{length, length-append}
use Rattle.std.specs.Prelude.{Option, Some, None}
use Rattle.laws.proofs.Laws.{both_right}
use Rattle.records.specs.Records.{word_at, is_item, is_claim}
use Rattle.records.specs.Tallies.{in_state}
use Rattle.records.specs.Counting.{one_if}
use Rattle.pairs.specs.code.Pairs.{later_of, pair_from}
use Rattle.names.specs.code.Names.{share, shared_pair}
use Rattle.values.specs.ValueWords.{state_of}
use Rattle.pieces.specs.Columns as column
use Rattle.meaning.specs.Elements.{Piece}
use Rattle.meaning.specs.Pieces.{pieces_of, class_of}
use Rattle.meaning.specs.Names.{own_name, claims, Done}
use Rattle.meaning.specs.Records.{records_from}
use Rattle.meaning.specs.Together.{shares, FirstPair, both, neither, count_in, AllFold}
use Rattle.meaning.proofs.Records.{pieces_done}
use Rattle.meaning.proofs.Words.{piece_at, item_table}
use Rattle.meaning.proofs.Places.{table_of}
use Rattle.meaning.proofs.Claims.{none_claims, past_end, claim_at}
use Rattle.meaning.proofs.Claimed.{shares_one}
use Rattle.meaning.proofs.Doubles.{share_claims}
use Rattle.meaning.proofs.Counted.{state_at_lem}

-- ---- the tally

counted : (b : Bool) (s k : ℕ) → k ≤ 10 → one_if (eqb (cond b s 11) k) ≡ one_if (b && eqb s k)
counted true s k h = refl
counted false s k h = ap one_if (ne_eqb 11 k (λ e. omega arith))

in_state_lem : (k : ℕ) → k ≤ 10 → (above ds : List Done) (rest : List ℕ) → in_state k (records_from 0 (above ++ ds) ++ rest) (length above) (length ds) ≡ count_in k ds
unfolding in_state count_in
in_state_lem k h above [] rest = refl
in_state_lem k h above (d ∷ ds) rest =
    let items = records_from 0 (above ++ (d ∷ ds)) ++ rest in
    let here = ap (λ (s : ℕ). one_if (eqb s k)) (state_at_lem above ds d rest) ∙ counted (is_item (class_of d.piece)) (state_of d.value) k h in
    let again = in_state_lem k h (above ++ (d ∷ [])) ds rest in
    let same = ap (λ (l : List Done). records_from 0 l ++ rest) (append_assoc above (d ∷ []) ds) in
    let size : length (above ++ (d ∷ [])) ≡ suc (length above) = omega (arith, length-append above (d ∷ [])) in
    ap₂ ◌+◌ here (sym (ap₂ (λ (l : List ℕ) (n : ℕ). in_state k l n (length ds)) same size) ∙ again)

pub state_count : (k : ℕ) → k ≤ 10 → (ds : List Done) (rest : List ℕ) → in_state k (records_from 0 ds ++ rest) 0 (length ds) ≡ count_in k ds
state_count k h ds rest = in_state_lem k h [] ds rest

-- ---- every item in state 0

abbrev pub Known : List Done → Type 0
Known [] = Unit {0}
Known (d ∷ ds) = (state_of d.value ≤ 10) × Known ds

none_other : (b : Bool) (s k : ℕ) → 1 ≤ k → (b ≡ true → s ≡ 0) → one_if (b && eqb s k) ≡ 0
none_other false s k h f = refl
none_other true s k h f = ap one_if (ne_eqb s k (λ e. let z = f refl in omega arith))

pub folds_none : (ds : List Done) → AllFold ds → (k : ℕ) → 1 ≤ k → count_in k ds ≡ 0
unfolding count_in
folds_none [] h k l = refl
folds_none (d ∷ ds) h k l = omega (arith, none_other (is_item (class_of d.piece)) (state_of d.value) k l h.0, folds_none ds h.1 k l)

pub none_folds : (ds : List Done) → Known ds → ((k : ℕ) → 1 ≤ k → k ≤ 10 → count_in k ds ≡ 0) → AllFold ds
unfolding count_in
none_folds [] n h = tt
none_folds (d ∷ ds) n h = (zero_here, none_folds ds n.1 (λ k a b. omega (arith, h k a b)))
  where
    zero_here : is_item (class_of d.piece) ≡ true → state_of d.value ≡ 0
    zero_here i = go (eqb (state_of d.value) 0) refl
      where
        go : (b : Bool) → eqb (state_of d.value) 0 ≡ b → state_of d.value ≡ 0
        go true e = eqb-true (state_of d.value) 0 e
        go false e =
            let s = state_of d.value in
            let z = eqb-false s 0 e in
            let c = h s (omega arith) n.0 in
            let one : one_if (is_item (class_of d.piece) && eqb s s) ≡ 1 = rw (i, eq-eqb s s refl) in
            absurd (omega arith)

-- ---- the first pair

module _ (f : ℕ → ℕ → Bool) (n : ℕ) where
  -- of the pairs below n whose earlier one is not below lo
  data FirstFrom (lo : ℕ) : Option (ℕ × ℕ) → Type 0 where
    found : {i j : ℕ} → lo ≤ i → i < j → j < n → f i j ≡ true → ((a b : ℕ) → lo ≤ a → a < b → b < n → f a b ≡ true → (i ≤ a) × (a ≡ i → j ≤ b)) → FirstFrom lo (Some (i, j))
    nowhere : ((a b : ℕ) → lo ≤ a → a < b → b < n → f a b ≡ true → ⊥) → FirstFrom lo None

  never : (b : Bool) → b ≡ false → b ≡ true → ⊥
  never b p q = false≢true (sym p ∙ q)

  widen : (i : ℕ) {o : Option (ℕ × ℕ)} → ((b : ℕ) → i < b → b < n → f i b ≡ false) → FirstFrom (suc i) o → FirstFrom i o
  widen i none (found {i = k} {j = j} l m h t least) = found {i = k} {j = j} (omega arith) m h t below
    where
      below : (a b : ℕ) → i ≤ a → a < b → b < n → f a b ≡ true → (k ≤ a) × (a ≡ k → j ≤ b)
      below a b x y z w = go (eqb a i) refl
        where
          go : (c : Bool) → eqb a i ≡ c → (k ≤ a) × (a ≡ k → j ≤ b)
          go true e = let q = eqb-true a i e in absurd (never (f i b) (none b (omega arith) z) (subst (λ (v : ℕ). f v b ≡ true) q w))
          go false e = let q = eqb-false a i e in least a b (omega arith) y z w
  widen i none (nowhere least) = nowhere below
    where
      below : (a b : ℕ) → i ≤ a → a < b → b < n → f a b ≡ true → ⊥
      below a b x y z w = go (eqb a i) refl
        where
          go : (c : Bool) → eqb a i ≡ c → ⊥
          go true e = let q = eqb-true a i e in never (f i b) (none b (omega arith) z) (subst (λ (v : ℕ). f v b ≡ true) q w)
          go false e = let q = eqb-false a i e in least a b (omega arith) y z w

  later_first : (i j m : ℕ) (o : Option (ℕ × ℕ)) → n ≡ j + m → i < j → ((b : ℕ) → i < b → b < j → f i b ≡ false) → FirstFrom (suc i) o → FirstFrom i (later_of f i j m o)
  unfolding later_of
  later_first i j zero o e l none h = widen i (λ b x y. none b x (omega arith)) h
  later_first i j (suc m) o e l none h = go (f i j) refl (λ q. later_first i (suc j) m o (omega arith) (omega arith) q h)
    where
      further : f i j ≡ false → (b : ℕ) → i < b → b < suc j → f i b ≡ false
      further q b x y = by (eqb b j) refl
        where
          by : (c : Bool) → eqb b j ≡ c → f i b ≡ false
          by true r = let z = eqb-true b j r in subst (λ (v : ℕ). f i v ≡ false) (sym z) q
          by false r = let z = eqb-false b j r in none b x (omega arith)

      least : (a b : ℕ) → i ≤ a → a < b → b < n → f a b ≡ true → (i ≤ a) × (a ≡ i → j ≤ b)
      least a b x y z w = (x, λ q. by q (ltb b j) refl)
        where
          by : a ≡ i → (c : Bool) → ltb b j ≡ c → j ≤ b
          by q true r = let u = ltb-true b j r in absurd (never (f i b) (none b (omega arith) u) (subst (λ (v : ℕ). f v b ≡ true) q w))
          by q false r = ltb-false b j r

      go : (c : Bool) → f i j ≡ c → (((b : ℕ) → i < b → b < suc j → f i b ≡ false) → FirstFrom i (later_of f i (suc j) m o)) → FirstFrom i (later_of f i j (suc m) o)
      go true q again = rw (q, later_of) (found {i = i} {j = j} (omega arith) l (omega arith) q least)
      go false q again = rw (q, later_of) (again (further q))

  pair_first : (i m : ℕ) → n ≡ i + m → FirstFrom i (pair_from f i m)
  unfolding pair_from
  pair_first i zero e = nowhere (λ a b x y z w. absurd (omega arith))
  pair_first i (suc m) e = later_first i (suc i) m (pair_from f (suc i) m) (omega arith) (omega arith) (λ b x y. absurd (omega arith)) (pair_first (suc i) m (omega arith))

shares_inside : (ps : List Piece) (a b : ℕ) → shares ps a b ≡ true → b < length ps
shares_inside ps a b h = go (ltb b (length ps)) refl
  where
    go : (c : Bool) → ltb b (length ps) ≡ c → b < length ps
    go true e = ltb-true b (length ps) e
    go false e =
        let k = both_right (is_claim (class_of (piece_at ps a))) (claims (own_name (piece_at ps a)) (piece_at ps b)) (sym (shares_one ps a b) ∙ h) in
        absurd (false≢true (sym (none_claims (own_name (piece_at ps a))) ∙ ap (claims (own_name (piece_at ps a))) (sym (past_end ps b (ltb-false b (length ps) e))) ∙ k))

first_of_lem : (ps : List Piece) (o : Option (ℕ × ℕ)) → FirstFrom (shares ps) (length ps) 0 o → FirstPair ps o
first_of_lem ps o (found l m h t least) = both m t (λ a b x w. least a b (omega arith) x (shares_inside ps a b w) w)
first_of_lem ps o (nowhere none) = neither (λ a b x w. none a b (omega arith) x (shares_inside ps a b w) w)

-- at most one pair is the first
pub one_pair : (ps : List Piece) (o q : Option (ℕ × ℕ)) → FirstPair ps o → FirstPair ps q → o ≡ q
one_pair ps o q (both {i = i} {j = j} l t least) (both {i = a} {j = b} m u other) =
    let x = least a b m u in
    let y = other i j l t in
    let z : i ≡ a = omega (arith, x.0, y.0) in
    let w : j ≡ b = omega (arith, x.1 (sym z), y.1 z) in
    cc
one_pair ps o q (both {i = i} {j = j} l t least) (neither none) = absurd (none i j l t)
one_pair ps o q (neither none) (both {i = i} {j = j} l t least) = absurd (none i j l t)
one_pair ps o q (neither none) (neither other) = refl

no_share : (text table items : List ℕ) (i j : ℕ) → is_claim (word_at items i column.class) ≡ false → share text table items i j ≡ false
unfolding share
no_share text table items i j e = rw e

module _ (s : List ℕ) (z y : ℕ) (ds : List Done) (cuts : pieces_done ds ≡ pieces_of s) (few : length (pieces_of s) ≤ 1024) where
  share_is : (i j : ℕ) → share s (table_of s z) (item_table ds y) i j ≡ shares (pieces_of s) i j
  share_is i j = go (is_claim (class_of (piece_at (pieces_of s) i))) refl ∙ sym (shares_one (pieces_of s) i j)
    where
      go : (b : Bool) → is_claim (class_of (piece_at (pieces_of s) i)) ≡ b
          → share s (table_of s z) (item_table ds y) i j ≡ (is_claim (class_of (piece_at (pieces_of s) i)) && claims (own_name (piece_at (pieces_of s) i)) (piece_at (pieces_of s) j))
      go true c = share_claims s z y ds cuts few i c j ∙ sym (ap (λ (b : Bool). b && claims (own_name (piece_at (pieces_of s) i)) (piece_at (pieces_of s) j)) c)
      go false c = unshared ∙ sym (ap (λ (b : Bool). b && claims (own_name (piece_at (pieces_of s) i)) (piece_at (pieces_of s) j)) c)
        where
          unshared : share s (table_of s z) (item_table ds y) i j ≡ false
          unshared = no_share s (table_of s z) (item_table ds y) i j (claim_at s z y ds cuts i ∙ c)

  pub pair_is : FirstPair (pieces_of s) (shared_pair s (table_of s z) (item_table ds y) (length (pieces_of s)))
  unfolding shared_pair
  pair_is =
      subst (λ (f : ℕ → ℕ → Bool). FirstPair (pieces_of s) (pair_from f 0 (length (pieces_of s)))) (sym (fun_ext (λ i. fun_ext (λ j. share_is i j))))
      (first_of_lem (pieces_of s) _ (pair_first (shares (pieces_of s)) (length (pieces_of s)) 0 (length (pieces_of s)) (omega arith)))
