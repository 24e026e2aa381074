-- The third demand, proved: an item whose names are claimed by common pieces alone has the same answer in both texts. By induction on how many
-- pieces stand above it. Assumes nothing.
use Prim.Native.Nat.{ℕ, zero, suc, ◌+◌, ◌≤◌, ◌<◌}
use mathlib.Core.Path.{◌≡◌, refl, sym, ap, ap₂, subst, ◌∙◌}
use mathlib.Core.Logic.{◌⊎◌, inl, inr}
use mathlib.Core.Bool.{Bool, true, false, not, ◌&&◌, false≢true}
use mathlib.Core.List.{List, [], ◌∷◌, ◌++◌, append_assoc}
use native.Mathlib.Nat.{le_refl}
use native.Mathlib.Omega.{arith}
use lib.Dec.{eqb, leb}
use lib.ListN.{length, get_or, length-append}
use Rattle.records.specs.Records.{is_claim, word_at}
use Rattle.pieces.specs.Columns as column
use Rattle.meaning.proofs.Claimed.{doubled_one}
use Rattle.records.specs.Counting.{one_if}
use Rattle.values.specs.declared.Value.{Value}
use Rattle.meaning.specs.Elements.{Element, Piece}
use Rattle.meaning.specs.Pieces.{pieces_of, class_of}
use Rattle.meaning.proofs.Cutting.{total}
use Rattle.meaning.specs.Names.{own_name, claims, language, claims_in, own_doubled, Done, claimed_above, first_above, use_of}
use Rattle.meaning.specs.code.PieceValues.{value_of, done_of, dones_from, dones_of, records_of}
use Rattle.meaning.specs.Records.{record_of, records_from}
use Rattle.meaning.proofs.Records.{pieces_done, word_at_record}
use Rattle.damage.specs.PlacedElements.{In, placed, PlacedPiece, closes_part, opens_part, parts_of, bare, bare_each, SameEach, PieceOf}
use Rattle.damage.specs.Damage.{olds, news, NoneChanged, UsesName, NoClaim, FirstAbove, LeadsTo, itself, through, Concerns, Undisturbed}
use Rattle.damage.specs.code.Texts.{SameAnswer}
use Rattle.damage.proofs.Order.{in_left, in_middle, Rising, rising_left, rising_between, ordered, earlier, passing_in, in_passing, rising_passing, one_list}
use Rattle.damage.proofs.Lines.{Before, before_never, before_both, placed_rising}
use Rattle.damage.proofs.Texts.{places_added}
use Rattle.damage.proofs.Cuts.{Ahead, ahead_never, ahead_both, cut_rising}
use Rattle.damage.proofs.Common.{parted, one_piece, piece_of}
use Rattle.damage.proofs.Agreeing.{own_among, own_is, claims_on, value_on}
use Rattle.damage.proofs.Above.{each_append, dones_append, dones_length, claimants, claims_count, FirstClaim, first_claim, none_claimed, none_first, some_claimed, some_first, use_on}

parts_rising : (before middle after : List ℕ) → Rising (Ahead Before) (parts_of (placed before middle after))
unfolding parts_of
parts_rising before middle after = cut_rising closes_part opens_part Before (placed before middle after) (placed_rising before middle after)

-- one way leads on to another
leads_on : (P : List PlacedPiece) (p q r : PlacedPiece) → LeadsTo P p q → LeadsTo P q r → LeadsTo P p r
leads_on P p q r h itself = h
leads_on P p q r h (through x k u c a) = through x (leads_on P p q _ h k) u c a

-- an item of the pieces P all of whose names are claimed by pieces of P and Q alone
abbrev pub Clear : List PlacedPiece → List PlacedPiece → PlacedPiece → Type 0
Clear P Q p = (x : Element) → Concerns P p x → (q : PlacedPiece) → In q P ⊎ In q Q → claims x (bare q) ≡ true → In q P × In q Q

-- so is one that it leads to
clear_on : (P Q : List PlacedPiece) (p q : PlacedPiece) (x : Element) → Clear P Q p → UsesName (bare p) x → claims x (bare q) ≡ true → FirstAbove x P q p → Clear P Q q
clear_on P Q p q x f u c a y (inl own) r i h =
    f x (inr (p, itself, u)) r i (claims_on x (bare q) (bare r) c (subst (λ z. claims z (bare r) ≡ true) (own_is (bare q) y own) h))
clear_on P Q p q x f u c a y (inr (r, l, v)) w i h = f y (inr (r, leads_on P p q r (through x itself u c a) l, v)) w i h

abbrev pub Ordered : List PlacedPiece → Type 0
Ordered = Rising (Ahead Before)

abbrev never : (p : PlacedPiece) → Ahead Before p p → ⊥
never = ahead_never Before before_never

abbrev along : (p q r : PlacedPiece) → Ahead Before p q → Ahead Before q r → Ahead Before p r
along = ahead_both Before before_both

-- claims of x are the same in both
module _ (P Q : List PlacedPiece) (r : Ordered P) (o : Ordered Q) (x : Element) (f : (q : PlacedPiece) → In q P ⊎ In q Q → claims x (bare q) ≡ true → In q P × In q Q) where
  same_claimants : claimants x P ≡ claimants x Q
  same_claimants =
      one_list (Ahead Before) never along (claimants x P) (claimants x Q)
      (rising_passing (Ahead Before) never along (λ p. claims x (bare p)) P r)
      (rising_passing (Ahead Before) never along (λ p. claims x (bare p)) Q o)
      (λ q h. let z = passing_in (Ahead Before) never along (λ p. claims x (bare p)) q P h in in_passing (Ahead Before) never along (λ p. claims x (bare p)) q Q (f q (inl z.0) z.1).1 z.1)
      (λ q h. let z = passing_in (Ahead Before) never along (λ p. claims x (bare p)) q Q h in in_passing (Ahead Before) never along (λ p. claims x (bare p)) q P (f q (inr z.0) z.1).0 z.1)

  same_count : claims_in x (bare_each P) ≡ claims_in x (bare_each Q)
  same_count = claims_count x P ∙ ap (λ (l : List PlacedPiece). length l + one_if (not (eqb (language x) 0))) same_claimants ∙ sym (claims_count x Q)

-- a claim above p in one is above p in the other
moves_above : (P Q a b a' b' : List PlacedPiece) (p q : PlacedPiece) → Ordered P → Ordered Q → P ≡ a ++ p ∷ b → Q ≡ a' ++ p ∷ b' → In q a → In q Q → In q a'
moves_above P Q a b a' b' p q r o e f h k =
    earlier (Ahead Before) never along a' b' p q (subst Ordered f o) (subst (λ l. In q l) f k)
    (rising_between (Ahead Before) a (p ∷ b) q p (subst Ordered e r) h (inl refl))

split_in : {x : Element} {ps : List PlacedPiece} (f : FirstClaim x ps) → In f.claimant ps
split_in f = subst (λ l. In f.claimant l) (sym f.split) (in_middle f.claimant f.early f.late)

-- the first claim above p is the same in both
module _ (P Q a b a' b' : List PlacedPiece) (p : PlacedPiece) (r : Ordered P) (o : Ordered Q) (e : P ≡ a ++ p ∷ b) (e' : Q ≡ a' ++ p ∷ b') (x : Element)
    (f : (q : PlacedPiece) → In q P ⊎ In q Q → claims x (bare q) ≡ true → In q P × In q Q) where
  in_first : (q : PlacedPiece) → In q a → In q P
  in_first q h = subst (λ l. In q l) (sym e) (in_left q a (p ∷ b) h)

  in_second : (q : PlacedPiece) → In q a' → In q Q
  in_second q h = subst (λ l. In q l) (sym e') (in_left q a' (p ∷ b') h)

  there : (q : PlacedPiece) → In q a → claims x (bare q) ≡ true → In q a'
  there q h c = moves_above P Q a b a' b' p q r o e e' h (f q (inl (in_first q h)) c).1

  back : (q : PlacedPiece) → In q a' → claims x (bare q) ≡ true → In q a
  back q h c = moves_above Q P a' b' a b p q o r e' e h (f q (inr (in_second q h)) c).0

  -- no claim is ahead of the first
  not_ahead : (c : List PlacedPiece) (k : FirstClaim x c) → Ordered c → (q : PlacedPiece) → In q c → claims x (bare q) ≡ true → Ahead Before q k.claimant → ⊥
  not_ahead c k u q h t z =
      let m = earlier (Ahead Before) never along k.early k.late k.claimant q (subst Ordered k.split u) (subst (λ l. In q l) k.split h) z in
      false≢true (sym (k.unclaimed q m) ∙ t)

  same_first : (k : FirstClaim x a) (k' : FirstClaim x a') → k.claimant ≡ k'.claimant
  same_first k k' = go (ordered (Ahead Before) never along P k.claimant k'.claimant r (in_first k.claimant (split_in k)) (in_first k'.claimant (back k'.claimant (split_in k') k'.claimed)))
    where
      go : Ahead Before k.claimant k'.claimant ⊎ ((k.claimant ≡ k'.claimant) ⊎ Ahead Before k'.claimant k.claimant) → k.claimant ≡ k'.claimant
      go (inl z) = absurd (not_ahead a' k' (rising_left (Ahead Before) a' (p ∷ b') (subst Ordered e' o)) k.claimant (there k.claimant (split_in k) k.claimed) k.claimed z)
      go (inr (inl z)) = z
      go (inr (inr z)) = absurd (not_ahead a k (rising_left (Ahead Before) a (p ∷ b) (subst Ordered e r)) k'.claimant (back k'.claimant (split_in k') k'.claimed) k'.claimed z)

-- what p comes to below the pieces a
abbrev pub worth : List Piece → List PlacedPiece → PlacedPiece → Value
worth all a p = value_of all (dones_from all [] (bare_each a)) (bare p)

-- what an item comes to among the pieces P and among the pieces Q, whatever texts they are of
module _ (P Q : List PlacedPiece) (r : Ordered P) (o : Ordered Q) where
  abbrev pub first_all : List Piece
  first_all = bare_each P

  abbrev pub second_all : List Piece
  second_all = bare_each Q

  abbrev pub Value-same : ℕ → Type 0
  Value-same n =
      (p : PlacedPiece) (a b a' b' : List PlacedPiece) → P ≡ a ++ p ∷ b → Q ≡ a' ++ p ∷ b' → length a < n → Clear P Q p → worth first_all a p ≡ worth second_all a' p

  -- a name that p uses
  module _ (n : ℕ) (ih : Value-same n) (p : PlacedPiece) (a b a' b' : List PlacedPiece) (e : P ≡ a ++ p ∷ b) (e' : Q ≡ a' ++ p ∷ b') (l : length a < suc n) (c : Clear P Q p) (x : Element) (u : UsesName (bare p) x) where
    clear_here : (q : PlacedPiece) → In q (P) ⊎ In q (Q) → claims x (bare q) ≡ true → In q (P) × In q (Q)
    clear_here = c x (inr (p, itself, u))

    abbrev Found : Type 0
    Found =
        (claimed_above x (dones_from first_all [] (bare_each a)) ≡ claimed_above x (dones_from second_all [] (bare_each a')))
        × (first_above x (dones_from first_all [] (bare_each a)) ≡ first_above x (dones_from second_all [] (bare_each a')))

    found_none : NoClaim x a → NoClaim x a' → Found
    found_none h h' =
        (none_claimed first_all x [] a h ∙ sym (none_claimed second_all x [] a' h'), none_first first_all x [] a h ∙ sym (none_first second_all x [] a' h'))

    found_some : FirstClaim x a → FirstClaim x a' → Found
    found_some k k' =
        let z : k.claimant ≡ k'.claimant = same_first P Q a b a' b' p r o e e' x clear_here k k' in
        let w : a' ≡ k'.early ++ k.claimant ∷ k'.late = k'.split ∙ ap (λ (q : PlacedPiece). k'.early ++ q ∷ k'.late) (sym z) in
        let g : P ≡ k.early ++ k.claimant ∷ (k.late ++ p ∷ b) = e ∙ ap (λ (m : List PlacedPiece). m ++ p ∷ b) k.split ∙ append_assoc k.early (k.claimant ∷ k.late) (p ∷ b) in
        let g' : Q ≡ k'.early ++ k.claimant ∷ (k'.late ++ p ∷ b') = e' ∙ ap (λ (m : List PlacedPiece). m ++ p ∷ b') w ∙ append_assoc k'.early (k.claimant ∷ k'.late) (p ∷ b') in
        let v : worth first_all k.early k.claimant ≡ worth second_all k'.early k.claimant =
        ih k.claimant k.early (k.late ++ p ∷ b) k'.early (k'.late ++ p ∷ b') g g' (omega (arith, l, ap length k.split, length-append k.early (k.claimant ∷ k.late)))
        (clear_on P Q p k.claimant x c u k.claimed (k.early, k.late, b, g, k.unclaimed)) in
        let d : claims x (bare k.claimant) ≡ true = k.claimed in (
          ap (λ (m : List PlacedPiece). claimed_above x (dones_from first_all [] (bare_each m))) k.split ∙ some_claimed first_all x [] k.early k.claimant k.late d
              ∙ sym (ap (λ (m : List PlacedPiece). claimed_above x (dones_from second_all [] (bare_each m))) w ∙ some_claimed second_all x [] k'.early k.claimant k'.late d),
          ap (λ (m : List PlacedPiece). first_above x (dones_from first_all [] (bare_each m))) k.split ∙ some_first first_all x [] k.early k.claimant k.late k.unclaimed d
              ∙ v
              ∙ sym (ap (λ (m : List PlacedPiece). first_above x (dones_from second_all [] (bare_each m))) w ∙ some_first second_all x [] k'.early k.claimant k'.late k'.unclaimed d),
        )

    found : FirstClaim x a ⊎ NoClaim x a → FirstClaim x a' ⊎ NoClaim x a' → Found
    found (inl k) (inl k') = found_some k k'
    found (inl k) (inr h') =
        absurd (false≢true (sym (h' k.claimant (there P Q a b a' b' p r o e e' x clear_here k.claimant (split_in k) k.claimed)) ∙ k.claimed))
    found (inr h) (inl k') =
        absurd (false≢true (sym (h k'.claimant (back P Q a b a' b' p r o e e' x clear_here k'.claimant (split_in k') k'.claimed)) ∙ k'.claimed))
    found (inr h) (inr h') = found_none h h'

    same_use : use_of first_all (dones_from first_all [] (bare_each a)) x ≡ use_of second_all (dones_from second_all [] (bare_each a')) x
    same_use =
        let z = found (first_claim x a) (first_claim x a') in
        use_on first_all second_all (dones_from first_all [] (bare_each a)) (dones_from second_all [] (bare_each a')) x
        (same_count P Q r o x clear_here) z.0 z.1

  same_doubled : (p : PlacedPiece) → Clear P Q p → own_doubled first_all (bare p) ≡ own_doubled second_all (bare p)
  same_doubled p c = doubled_one first_all (bare p) ∙ go (is_claim (class_of (bare p))) refl ∙ sym (doubled_one second_all (bare p))
    where
      go : (b : Bool) → is_claim (class_of (bare p)) ≡ b → (b && leb 2 (claims_in (own_name (bare p)) first_all)) ≡ (b && leb 2 (claims_in (own_name (bare p)) second_all))
      go true h = ap (λ (n : ℕ). leb 2 n) (same_count P Q r o (own_name (bare p)) (c (own_name (bare p)) (inl (own_among (bare p) h))))
      go false h = refl

  pub same_value : (n : ℕ) → Value-same n
  same_value zero p a b a' b' e e' l c = absurd (omega arith)
  same_value (suc n) p a b a' b' e e' l c =
      value_on first_all second_all (dones_from first_all [] (bare_each a)) (dones_from second_all [] (bare_each a')) (bare p) (same_doubled p c)
      (λ x u. same_use n (same_value n) p a b a' b' e e' l c x u)

-- the words of a record from the fifth on do not say where its piece stands
late : (from : ℕ) (d : Done) (k : ℕ) → column.state ≤ k → get_or (record_of from d) k 0 ≡ get_or (record_of 0 d) k 0
unfolding record_of
late from d zero h = absurd (omega arith)
late from d (suc zero) h = absurd (omega arith)
late from d (suc (suc zero)) h = absurd (omega arith)
late from d (suc (suc (suc zero))) h = absurd (omega arith)
late from d (suc (suc (suc (suc k)))) h = refl

-- word k of the record of a piece that comes to v
abbrev answer : PlacedPiece → ℕ → Value → ℕ
answer p k v = get_or (record_of 0 (record { piece = bare p; value = v })) k 0

-- the records of a text that has these pieces
module _ (s : List ℕ) (pieces : List PlacedPiece) (same : bare_each pieces ≡ pieces_of s) (p : PlacedPiece) (i : PieceOf pieces p) where
  abbrev all : List Piece
  all = bare_each pieces

  abbrev done : List Done
  done = dones_from all [] (bare_each i.above)

  abbrev this : Done
  this = done_of all done (bare p)

  abbrev rest : List Done
  rest = dones_from all (done ++ this ∷ []) (bare_each i.below)

  all_split : all ≡ bare_each i.above ++ bare p ∷ bare_each i.below
  unfolding bare_each
  all_split = ap bare_each i.split ∙ each_append i.above (p ∷ i.below)

  dones_split : dones_of (pieces_of s) ≡ done ++ this ∷ rest
  unfolding dones_of dones_from
  dones_split = ap dones_of (sym same) ∙ ap (dones_from all []) all_split ∙ dones_append all [] (bare_each i.above) (bare p ∷ bare_each i.below)

  record_word : (more : List ℕ) (k : ℕ) → column.state ≤ k → k ≤ column.high → word_at (records_of s ++ more) (length i.above) k ≡ answer p k (worth all i.above p)
  unfolding records_of
  record_word more k low high =
      ap₂ (λ (l : List ℕ) (n : ℕ). word_at (l ++ more) n k) (ap (records_from 0) dones_split) (sym (dones_length all [] i.above))
      ∙ word_at_record done rest this more k high
      ∙ late (total (pieces_done done)) this k low

-- common pieces are in both texts
module _ (before middle changed after : List ℕ) where
  abbrev first : PlacedPiece
  first = placed before middle after

  abbrev second : PlacedPiece
  second = placed before changed after

  one : (p q : PlacedPiece) → PieceOf (parts_of first) p → PieceOf (parts_of second) q → SameEach p q → NoneChanged p → p ≡ q
  one p q i j e n = one_piece first second (parted before middle changed after) (placed_rising before middle after) p q i j e n

  other : (p q : PlacedPiece) → PieceOf (parts_of second) p → PieceOf (parts_of first) q → SameEach p q → NoneChanged p → p ≡ q
  other p q i j e n = one_piece second first (parted before changed middle after) (placed_rising before changed after) p q i j e n

  clear : (p : PlacedPiece) → Undisturbed (parts_of first) (parts_of second) p → Clear (parts_of first) (parts_of second) p
  clear p u x c r (inl h) k =
      let z = u x c r (inl h) k in
      (h, subst (λ q. In q (parts_of second)) (sym (one r z.1.0 (piece_of (parts_of first) r h) (piece_of (parts_of second) z.1.0 z.1.1) z.1.2 z.2)) z.1.1)
  clear p u x c r (inr h) k =
      let z = u x c r (inr h) k in
      (subst (λ q. In q (parts_of first)) (sym (other r z.0.0 (piece_of (parts_of second) r h) (piece_of (parts_of first) z.0.0 z.0.1) z.0.2 z.2)) z.0.1, h)

  -- the item's answer among the pieces of the one, and among those of the other
  same_worth : (p q : PlacedPiece) (i : PieceOf (parts_of first) p) (j : PieceOf (parts_of second) q) → SameEach p q → NoneChanged p → Undisturbed (parts_of first) (parts_of second) p
      → (p ≡ q) × (worth (bare_each (parts_of first)) i.above p ≡ worth (bare_each (parts_of second)) j.above q)
  same_worth p q i j e n u =
      let z : p ≡ q = one p q i j e n in
      let w : parts_of second ≡ j.above ++ p ∷ j.below = j.split ∙ ap (λ (r : PlacedPiece). j.above ++ r ∷ j.below) (sym z) in
      let v = same_value (parts_of first) (parts_of second) (parts_rising before middle after) (parts_rising before changed after) (suc (length i.above)) p i.above i.below j.above j.below i.split w (le_refl _) (clear p u) in
      (z, v ∙ ap (worth (bare_each (parts_of second)) j.above) z)

pub same_answer : SameAnswer
same_answer s t d p q i j e n u more others k low high =
    let z = same_worth d.before d.middle d.changed d.after p q i j e n u in
    let f = (places_added d.before d.middle d.after d.begun d.inside d.ended).1 ∙ ap pieces_of (sym d.first) in
    let g = (places_added d.before d.changed d.after d.begun d.inside_changed d.ended).1 ∙ ap pieces_of (sym d.second) in
    record_word s (olds d) f p i more k low high ∙ ap₂ (λ (r : PlacedPiece) (v : Value). answer r k v) z.0 z.1 ∙ sym (record_word t (news d) g q j others k low high)
