-- The frame that is read off a text's elements is that of its pieces. Assumes nothing.
use mathlib.Core.Path.{◌≡◌, refl, sym, ap, ap₂, subst, ◌∙◌}
use mathlib.Core.Logic.{◌⊎◌, inl, inr, ◌↔◌}
use mathlib.Core.Bool.{Bool, true, false, cond, ◌&&◌, false≢true}
use mathlib.Core.List.{List, [], ◌∷◌}
use Prim.Native.Nat.{ℕ, zero, suc, ◌+◌, ◌-◌, ◌≤◌, ◌<◌, min}
use native.Mathlib.Nat.{add_assoc, add-zero}
use native.Mathlib.Omega.{arith}
use borrow.Author.Tests.{eqb-true, eqb-false, eq-eqb, ne_eqb}
use lib.Dec.{eqb}
use lib.ListN.{length, get_or, replicate, take, drop, length-append, length-replicate}
use lib.Seq.{split_at}
use Rattle.std.specs.Prelude.{Option, Some, None}
use Rattle.std.specs.Option.{is_some}
use Rattle.laws.proofs.Laws.{both_left, both_right}
use Rattle.places.specs.Places.{rows_in}
use Rattle.places.specs.declared.ElementNumber.{ElementNumber}
use Rattle.same_names.specs.Alike.{same_name}
use Rattle.element_reading.specs.Rows.{rows_of}
use Rattle.element_reading.specs.Table.{cells}
use Rattle.element_reading.proofs.TableLaws.{length_cells}
use Rattle.pieces.specs.Classes as class
use Rattle.pieces.specs.Classes.{is_either}
use Rattle.pieces.specs.Kinds.{piece_class, is_heading, is_closing, ends_at, has_name, behind_word, claim_class, class_at}
use Rattle.places.specs.Kinds.{is_name}
use Rattle.pieces.specs.Records.{name_of, pieces_in}
use Rattle.pieces.specs.Frames.{closing_name, framed, unframed, last_framed, framed_from, frame_of}
use Rattle.pieces.specs.declared.Frame.{Frame}
use Rattle.records.specs.Frames.{name_agrees, good_in, frame_good}
use Rattle.meaning.specs.Elements.{Element, Piece, at}
use Rattle.meaning.specs.Pieces.{kinds_in_piece, elements_of, pieces_of, class_of}
use Rattle.meaning.specs.Names.{same_as}
use Rattle.meaning.specs.Together.{piece_at, GoodFrame, Agrees, name_place}
use Rattle.meaning.proofs.Tables.{kinds_of_lem}
use Rattle.meaning.proofs.Cutting.{kinds_each, cut_kinds, cut_joins, total, join_all, at_piece, kinds_length}
use Rattle.meaning.proofs.Named.{same_name_lem}
use Rattle.meaning.proofs.Places.{table_of, elements}

-- ---- the pieces after a heading

abbrev Others : List Piece → ℕ → Type 0
Others ps n = (i : ℕ) → i < n → is_either (class_of (piece_at ps i)) ≡ false

-- the last of them is a closing, and no other is a heading or a closing
ended : (name from : ℕ) (ps : List Piece) (n : ℕ) → length ps ≡ suc n → is_some (framed_from name from (kinds_each ps)) ≡ true
    → (class_of (piece_at ps n) ≡ class.closing) × Others ps n
unfolding kinds_each framed_from last_framed
ended name from [] n e h = absurd (omega arith)
ended name from (p ∷ []) (suc n) e h = absurd (omega arith)
ended name from (p ∷ []) zero e h = (go (eqb (class_of p) class.closing) refl h, λ i l. absurd (omega arith))
  where
    go : (b : Bool) → eqb (class_of p) class.closing ≡ b → is_some (cond b (framed name (closing_name from (name_place p))) unframed) ≡ true → class_of p ≡ class.closing
    go true q k = eqb-true (class_of p) class.closing q
    go false q k = absurd (false≢true k)
ended name from (p ∷ (q ∷ ps)) zero e h = absurd (omega arith)
ended name from (p ∷ (q ∷ ps)) (suc n) e h = go (is_either (class_of p)) refl (λ k. ended name (from + length (kinds_in_piece p)) (q ∷ ps) n (omega arith) k) h
  where
    go : (b : Bool) → is_either (class_of p) ≡ b
        → (is_some (framed_from name (from + length (kinds_in_piece p)) (kinds_each (q ∷ ps))) ≡ true → (class_of (piece_at (q ∷ ps) n) ≡ class.closing) × Others (q ∷ ps) n)
        → is_some (cond b unframed (framed_from name (from + length (kinds_in_piece p)) (kinds_each (q ∷ ps)))) ≡ true
        → (class_of (piece_at (q ∷ ps) n) ≡ class.closing) × Others (p ∷ (q ∷ ps)) (suc n)
    go true u again k = absurd (false≢true k)
    go false u again k = let r = again k in (r.0, each r.1)
      where
        each : Others (q ∷ ps) n → Others (p ∷ (q ∷ ps)) (suc n)
        each f zero l = u
        each f (suc i) l = f i (omega arith)

ends : (name from : ℕ) (ps : List Piece) (n : ℕ) → length ps ≡ suc n → class_of (piece_at ps n) ≡ class.closing → Others ps n
    → framed_from name from (kinds_each ps) ≡ framed name (closing_name (from + total (take n ps)) (name_place (piece_at ps n)))
unfolding kinds_each framed_from last_framed total
ends name from [] n e c o = absurd (omega arith)
ends name from (p ∷ []) (suc n) e c o = absurd (omega arith)
ends name from (p ∷ []) zero e c o = rw (eq-eqb (class_of p) class.closing c, add-zero from)
ends name from (p ∷ (q ∷ ps)) zero e c o = absurd (omega arith)
ends name from (p ∷ (q ∷ ps)) (suc n) e c o =
    ap (λ (b : Bool). cond b unframed (framed_from name (from + length (kinds_in_piece p)) (kinds_each (q ∷ ps)))) (o 0 (omega arith))
    ∙ ends name (from + length (kinds_in_piece p)) (q ∷ ps) n (omega arith) c (λ i l. o (suc i) (omega arith))
    ∙ ap (λ (k : ℕ). framed name (closing_name k (name_place (piece_at (q ∷ ps) n))))
    (ap (λ (k : ℕ). from + k + total (take n (q ∷ ps))) (kinds_length p) ∙ add_assoc from (length p) (total (take n (q ∷ ps))))

-- where a heading's and a closing's name stand
long_enough : (ks : List ℕ) (q : ℕ) → is_name (get_or ks q 0) ≡ true → q < length ks
long_enough [] q h = absurd (false≢true h)
long_enough (k ∷ ks) zero h = omega arith
long_enough (k ∷ ks) (suc q) h = let z = long_enough ks q h in omega arith

claim_class_lem : (ks : List ℕ) → 3 ≤ (claim_class ks).class
unfolding claim_class
claim_class_lem ks = go (is_name (get_or ks 1 0)) (eqb (get_or ks 0 0) 53) (eqb (get_or ks 0 0) 129)
  where
    go : (a b c : Bool) → 3 ≤ (cond a (cond b (class_at 3 1) (cond c (class_at 4 1) (class_at 5 0))) (class_at 5 0)).class
    go true true c = omega arith
    go true false true = omega arith
    go true false false = omega arith
    go false b c = omega arith

heading_name : (ks : List ℕ) → is_heading ks ≡ true → is_name (get_or ks 1 0) ≡ true
unfolding is_heading
heading_name ks h =
    let a = both_right (eqb (length ks) 3) ((eqb (get_or ks 0 0) 98 && is_name (get_or ks 1 0)) && eqb (get_or ks 2 0) 78) h in
    let b = both_left (eqb (get_or ks 0 0) 98 && is_name (get_or ks 1 0)) (eqb (get_or ks 2 0) 78) a in
    both_right (eqb (get_or ks 0 0) 98) (is_name (get_or ks 1 0)) b

heading_place : (ks : List ℕ) → (piece_class ks).class ≡ 1 → ((piece_class ks).place ≡ 1) × (is_name (get_or ks 1 0) ≡ true)
unfolding piece_class
heading_place ks = go (is_heading ks) (is_closing ks) refl
  where
    go : (a b : Bool) → is_heading ks ≡ a → (cond a (class_at 1 1) (cond b (class_at 2 (cond (has_name ks) (behind_word ks) 0)) (claim_class ks))).class ≡ 1
        → ((cond a (class_at 1 1) (cond b (class_at 2 (cond (has_name ks) (behind_word ks) 0)) (claim_class ks))).place ≡ 1) × (is_name (get_or ks 1 0) ≡ true)
    go true b e h = (refl, heading_name ks e)
    go false true e h = absurd (omega arith)
    go false false e h = absurd (omega (arith, claim_class_lem ks))

closing_place : (ks : List ℕ) → (piece_class ks).class ≡ 2 → ((piece_class ks).place ≡ 0) ⊎ (is_name (get_or ks (piece_class ks).place 0) ≡ true)
unfolding piece_class has_name
closing_place ks = go (is_heading ks) (is_closing ks) (has_name ks) refl
  where
    go : (a b c : Bool) → is_name (get_or ks (behind_word ks) 0) ≡ c → (cond a (class_at 1 1) (cond b (class_at 2 (cond c (behind_word ks) 0)) (claim_class ks))).class ≡ 2
        → ((cond a (class_at 1 1) (cond b (class_at 2 (cond c (behind_word ks) 0)) (claim_class ks))).place ≡ 0)
        ⊎ (is_name (get_or ks (cond a (class_at 1 1) (cond b (class_at 2 (cond c (behind_word ks) 0)) (claim_class ks))).place 0) ≡ true)
    go true b c e h = absurd (omega arith)
    go false true true e h = inr e
    go false true false e h = inl refl
    go false false c e h = absurd (omega (arith, claim_class_lem ks))

empty_class : class_of [] ≡ 5
unfolding kinds_in_piece piece_class is_heading is_closing ends_at has_name behind_word claim_class
empty_class = refl

-- ---- the whole frame

-- what the names of the first piece and of the last come to
module _ (s t : List ℕ) where
  abbrev NamesAgree : List Piece → Type 0
  NamesAgree ps =
      (n : ℕ) → length ps ≡ suc n → 1 ≤ n → class_of (piece_at ps 0) ≡ class.heading → class_of (piece_at ps n) ≡ class.closing
      → (name_agrees s t (name_of 0 (name_place (piece_at ps 0))) (closing_name (total (take n ps)) (name_place (piece_at ps n))) ≡ true) ↔ Agrees (piece_at ps 0) (piece_at ps n)

  good_of : (f : Option Frame) → good_in s t f ≡ true → is_some f ≡ true
  unfolding good_in
  good_of (Some f) h = refl
  good_of None h = h

  none_good : good_in s t unframed ≡ true → ⊥
  unfolding good_in
  none_good h = false≢true h

  -- two pieces at least, the first of which is a heading
  module _ (p q : Piece) (ps : List Piece) (agree : NamesAgree (p ∷ (q ∷ ps))) where
    abbrev n : ℕ
    n = suc (length ps)

    abbrev all : List Piece
    all = p ∷ (q ∷ ps)

    last_one : length all - 1 ≡ n
    last_one = omega arith

    abbrev rest : Option Frame
    rest = framed_from (name_of 0 (name_place p)) (length (kinds_in_piece p)) (kinds_each (q ∷ ps))

    rest_is : class_of (piece_at all n) ≡ class.closing → Others (q ∷ ps) (length ps) → rest ≡ framed (name_of 0 (name_place p)) (closing_name (total (take n all)) (name_place (piece_at all n)))
    unfolding total
    rest_is c o =
        ends (name_of 0 (name_place p)) (length (kinds_in_piece p)) (q ∷ ps) (length ps) refl c o
        ∙ ap (λ (k : ℕ). framed (name_of 0 (name_place p)) (closing_name (k + total (take (length ps) (q ∷ ps))) (name_place (piece_at all n)))) (kinds_length p)

    headed : class_of p ≡ class.heading → good_in s t rest ≡ true → GoodFrame all
    unfolding good_in
    headed a g =
        let r = ended (name_of 0 (name_place p)) (length (kinds_in_piece p)) (q ∷ ps) (length ps) refl (good_of rest g) in
        let k = (agree n refl (omega arith) a r.0).0 (subst (λ (f : Option Frame). good_in s t f ≡ true) (rest_is r.0 r.1) g) in
        record {
          first = a;
          last = subst (λ (i : ℕ). class_of (piece_at all i) ≡ class.closing) (sym last_one) r.0;
          others = λ i l m. other i l (omega (arith, last_one)) r.1;
          agrees = subst (λ (i : ℕ). Agrees p (piece_at all i)) (sym last_one) k;
        }
      where
        other : (i : ℕ) → 1 ≤ i → i < n → Others (q ∷ ps) (length ps) → is_either (class_of (piece_at all i)) ≡ false
        other zero l m o = absurd (omega arith)
        other (suc i) l m o = o i (omega arith)

    heads : GoodFrame all → good_in s t rest ≡ true
    unfolding good_in
    heads g =
        let c : class_of (piece_at all n) ≡ class.closing = subst (λ (i : ℕ). class_of (piece_at all i) ≡ class.closing) last_one g.last in
        let o : Others (q ∷ ps) (length ps) = λ i l. g.others (suc i) (omega arith) (omega (arith, last_one)) in
        subst (λ (f : Option Frame). good_in s t f ≡ true) (sym (rest_is c o))
        ((agree n refl (omega arith) g.first c).1 (subst (λ (i : ℕ). Agrees p (piece_at all i)) last_one g.agrees))

  there : (ps : List Piece) → NamesAgree ps → good_in s t (frame_of (kinds_each ps)) ≡ true → GoodFrame ps
  unfolding kinds_each frame_of framed_from
  there [] agree g = absurd (none_good g)
  there (p ∷ []) agree g = go (eqb (class_of p) class.heading) g
    where
      go : (b : Bool) → good_in s t (cond b unframed unframed) ≡ true → GoodFrame (p ∷ [])
      go true h = absurd (none_good h)
      go false h = absurd (none_good h)
  there (p ∷ (q ∷ ps)) agree g = go (eqb (class_of p) class.heading) refl g
    where
      go : (b : Bool) → eqb (class_of p) class.heading ≡ b → good_in s t (cond b (rest p q ps agree) unframed) ≡ true → GoodFrame (p ∷ (q ∷ ps))
      go true e h = headed p q ps agree (eqb-true (class_of p) class.heading e) h
      go false e h = absurd (none_good h)

  back : (ps : List Piece) → NamesAgree ps → GoodFrame ps → good_in s t (frame_of (kinds_each ps)) ≡ true
  unfolding kinds_each frame_of framed_from
  back [] agree g = let a = g.first in absurd (omega (arith, empty_class))
  back (p ∷ []) agree g = let a = g.first in let b = g.last in absurd (omega arith)
  back (p ∷ (q ∷ ps)) agree g = rw (eq-eqb (class_of p) class.heading g.first) (heads p q ps agree g)

-- ---- of a text

module _ (s : List ℕ) (z : ℕ) where
  abbrev ps : List Piece
  ps = pieces_of s

  joined : join_all ps ≡ elements s
  unfolding pieces_of
  joined = cut_joins (elements s)

  element_here : (j q : ℕ) → j < length ps → is_name (get_or (kinds_in_piece (piece_at ps j)) q 0) ≡ true → at (elements s) (total (take j ps) + q) ≡ at (piece_at ps j) q
  element_here j q h g =
      sym (ap (λ (l : List Element). at l (total (take j ps) + q)) joined)
      ∙ ap (λ (qs : List Piece). at (join_all qs) (total (take j ps) + q)) (split_at ps j [] h)
      ∙ at_piece (take j ps) (piece_at ps j) (drop (suc j) ps) q (omega (arith, long_enough (kinds_in_piece (piece_at ps j)) q g, kinds_length (piece_at ps j)))

  module _ (n : ℕ) (e : length ps ≡ suc n) (a : class_of (piece_at ps 0) ≡ class.heading) (b : class_of (piece_at ps n) ≡ class.closing) where
    abbrev h : Piece
    h = piece_at ps 0

    abbrev c : Piece
    c = piece_at ps n

    -- the elements of their names
    abbrev hn : ℕ
    hn = name_of 0 (name_place h)

    abbrev cn : Option ElementNumber
    cn = closing_name (total (take n ps)) (name_place c)

    head_name : at (elements s) hn ≡ at h (name_place h)
    unfolding name_of total
    head_name =
        let q = heading_place (kinds_in_piece h) a in
        ap (λ (k : ℕ). at (elements s) (name_of 0 k)) q.0 ∙ element_here 0 1 (omega arith) q.1 ∙ ap (at h) (sym q.0)

    last_place : eqb (name_place c) 0 ≡ false → cn ≡ Some (record { 0 = total (take n ps) + name_place c })
    unfolding closing_name
    last_place q = rw q

    last_none : eqb (name_place c) 0 ≡ true → cn ≡ None
    unfolding closing_name
    last_none q = rw q

    last_name : eqb (name_place c) 0 ≡ false → at (elements s) (total (take n ps) + name_place c) ≡ at c (name_place c)
    last_name q = go (closing_place (kinds_in_piece c) b)
      where
        go : (name_place c ≡ 0) ⊎ (is_name (get_or (kinds_in_piece c) (name_place c) 0) ≡ true) → at (elements s) (total (take n ps) + name_place c) ≡ at c (name_place c)
        go (inl k) = absurd (eqb-false (name_place c) 0 q k)
        go (inr k) = element_here n (name_place c) (omega arith) k

    agrees_is : (name_agrees s (table_of s z) hn cn ≡ true) ↔ Agrees h c
    unfolding name_agrees
    agrees_is = go (eqb (name_place c) 0) refl
      where
        go : (x : Bool) → eqb (name_place c) 0 ≡ x → (name_agrees s (table_of s z) hn cn ≡ true) ↔ Agrees h c
        go true q = ((λ x. inl (eqb-true (name_place c) 0 q)), λ x. rw (last_none q))
        go false q =
            let k = eqb-false (name_place c) 0 q in
            let named = total (take n ps) + name_place c in
            let same : same_name s (table_of s z) hn named ≡ same_as (at h (name_place h)) (at c (name_place c)) = same_name_lem s z hn named ∙ ap₂ same_as head_name (last_name q) in
            ((λ x. inr (sym same ∙ rw (last_place q) at x)), λ x. rw (last_place q) (same ∙ agree k x))
          where
            agree : (name_place c ≡ 0 → ⊥) → Agrees h c → same_as (at h (name_place h)) (at c (name_place c)) ≡ true
            agree k (inl x) = absurd (k x)
            agree k (inr x) = x

  names_agree : NamesAgree s (table_of s z) ps
  names_agree n e l a b = agrees_is n e a b

  pub pieces_are : pieces_in (table_of s z) (length (rows_of s)) ≡ kinds_each ps
  unfolding pieces_in pieces_of
  pieces_are =
      let m : min (length (rows_of s)) (rows_in (table_of s z)) ≡ length (rows_of s) =
      omega (arith, length-append (cells (rows_of s)) (replicate z 0), length_cells (rows_of s), length-replicate {A = ℕ} z 0) in
      rw (m, kinds_of_lem s (rows_of s) (replicate z 0)) (sym (cut_kinds (elements_of s (rows_of s))))

  pub frame_is : (frame_good s (table_of s z) (length (rows_of s)) ≡ true) ↔ GoodFrame ps
  unfolding frame_good
  frame_is = rw pieces_are (there s (table_of s z) ps names_agree, back s (table_of s z) ps names_agree)
