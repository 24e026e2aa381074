-- The frame, piece by piece, in the code's terms. Assumes nothing.
use mathlib.Core.Path.{◌≡◌, refl, sym, ap, ◌∙◌}
use mathlib.Core.Bool.{Bool, true, false, cond}
use mathlib.Core.List.{List, [], ◌∷◌}
use Prim.Native.Nat.{ℕ, ◌+◌, ◌≤◌, ◌<◌, min}
use native.Mathlib.Nat.{zero-add}
use native.Mathlib.Omega.{arith}
use borrow.Author.Tests.{eq-eqb, ne_eqb}
use lib.ListN.{length, take, drop}
use Rattle.std.specs.Prelude.{Option, Some, None}
use Rattle.places.specs.Places.{rows_in, kinds_of}
use Rattle.places.specs.declared.ElementNumber.{ElementNumber}
use Rattle.places.proofs.Laws.{kinds_end}
use Rattle.pieces.specs.Classes as class
use Rattle.pieces.specs.Cutting.{piece_size, cut}
use Rattle.pieces.specs.Kinds.{kinds_at, closes_piece, opens_piece, kind_pieces, piece_class}
use Rattle.pieces.specs.Records.{name_of, pieces_in}
use Rattle.pieces.specs.Classes.{is_either}
use Rattle.pieces.specs.Frames.{closing_name, unframed, last_framed, framed_from, frame_of}
use Rattle.pieces.specs.declared.PieceClass.{PieceClass}
use Rattle.pieces.specs.declared.Frame.{Frame}
use Rattle.pieces.proofs.Laws.{size_inside, first_piece}
use Rattle.pieces.proofs.Classing.{piece_length}

-- the last piece
module _ (heading from : ℕ) (m : PieceClass) where
  pub last_other : (r : Option Frame) → (m.class ≡ class.closing → ⊥) → r ≡ unframed → r ≡ last_framed heading from m
  unfolding last_framed
  last_other r h e = rw (ne_eqb m.class class.closing h) e

pub closing_none : (from place : ℕ) → place ≡ 0 → None ≡ closing_name from place
unfolding closing_name
closing_none from place h = rw (eq-eqb place 0 h)

pub closing_some : (from place : ℕ) → (place ≡ 0 → ⊥) → Some (record { 0 = from + place }) ≡ closing_name from place
unfolding closing_name
closing_some from place h = rw (ne_eqb place 0 h)

pub last_closing : (heading : ElementNumber) (closing : Option ElementNumber) (from : ℕ) (m : PieceClass) → m.class ≡ class.closing → closing ≡ closing_name from m.place
    → ◌≡◌ {A = Option Frame} (Some (record { heading = heading; closing = closing })) (last_framed heading.0 from m)
unfolding last_framed
last_closing heading closing from m h e = rw (eq-eqb m.class class.closing h, ← e)

-- a piece that another follows
framed_more : (name from : ℕ) (p q : List ℕ) (ps qs : List (List ℕ)) → qs ≡ q ∷ ps
    → framed_from name from (p ∷ qs) ≡ cond (is_either (piece_class p).class) unframed (framed_from name (from + length p) qs)
unfolding framed_from
framed_more name from p q ps qs e = rw e

-- the pieces from an element on
module _ (n : ℕ) (t : List ℕ) where
  abbrev Rest : ℕ → List (List ℕ)
  Rest from = kind_pieces (drop from (kinds_of n t))

  pub none_left : (from : ℕ) → n ≤ from → Rest from ≡ []
  unfolding cut
  none_left from h = rw (kinds_end t n from h)

  pub frame_none : (name from : ℕ) (r whole : Option Frame) → framed_from name from (Rest from) ≡ whole → n ≤ from → r ≡ unframed → r ≡ whole
  unfolding framed_from
  frame_none name from r whole h l e = e ∙ rw (none_left from l) at h

  module _ (name from r : ℕ) (e : r ≡ piece_size closes_piece opens_piece (drop from (kinds_of n t))) (l : from < n) (m : PieceClass) (p : m ≡ piece_class (kinds_at n t from r)) (whole : Option Frame)
      (h : framed_from name from (Rest from) ≡ whole) where
    here : List ℕ
    here = take r (drop from (kinds_of n t))

    marked : piece_class here ≡ m
    unfolding here kinds_at
    marked = sym p

    opened : framed_from name from (here ∷ Rest (from + r)) ≡ whole
    unfolding here
    opened = ap (framed_from name from) (sym (first_piece n t from r e l)) ∙ h

    pub frame_last : (x : Option Frame) → from + r ≡ n → x ≡ last_framed name from m → x ≡ whole
    unfolding framed_from
    frame_last x z q = q ∙ ap (last_framed name from) (sym marked) ∙ rw (none_left (from + r) (omega arith)) at opened

    -- another piece follows
    module _ (z : from + r ≡ n → ⊥) where
      inside : from + r < n
      inside = omega (arith, size_inside n t from r e l)

      long : length here ≡ r
      unfolding here kinds_at
      long = piece_length n t from r (size_inside n t from r e l)

      abbrev size : ℕ
      size = piece_size closes_piece opens_piece (drop (from + r) (kinds_of n t))

      second : Rest (from + r) ≡ take size (drop (from + r) (kinds_of n t)) ∷ Rest (from + r + size)
      second = first_piece n t (from + r) size refl inside

      turned : (b : Bool) → is_either m.class ≡ b → cond b unframed (framed_from name (from + r) (Rest (from + r))) ≡ whole
      turned b q =
          ap (λ (c : Bool). cond c unframed (framed_from name (from + r) (Rest (from + r)))) (sym q)
          ∙ ap (λ (k : PieceClass). cond (is_either k.class) unframed (framed_from name (from + r) (Rest (from + r)))) (sym marked)
          ∙ ap (λ (k : ℕ). cond (is_either (piece_class here).class) unframed (framed_from name (from + k) (Rest (from + r)))) (sym long)
          ∙ sym (framed_more name from here _ _ (Rest (from + r)) second)
          ∙ opened

      pub frame_stop : (x : Option Frame) (b : Bool) → b ≡ is_either m.class → b ≡ true → x ≡ unframed → x ≡ whole
      frame_stop x b q g o = o ∙ turned true (sym q ∙ g)

      pub frame_turn : (b : Bool) → b ≡ is_either m.class → b ≡ false → framed_from name (from + r) (Rest (from + r)) ≡ whole
      frame_turn b q g = turned false (sym q ∙ g)

-- the whole frame
module _ (t : List ℕ) (count rows n : ℕ) (d : rows ≡ rows_in t) (e : n ≡ min count rows) where
  pieces_are : pieces_in t count ≡ kind_pieces (kinds_of n t)
  unfolding pieces_in
  pieces_are = rw (← d, ← e)

  pub frame_empty : (r : Option Frame) → n ≡ 0 → r ≡ unframed → r ≡ frame_of (pieces_in t count)
  unfolding frame_of
  frame_empty r h q = rw (pieces_are, none_left n t 0 (omega arith)) q

  module _ (size : ℕ) (m : PieceClass) (f : size ≡ piece_size closes_piece opens_piece (drop 0 (kinds_of n t))) (h : n ≡ 0 → ⊥) (p : m ≡ piece_class (kinds_at n t 0 size)) where
    pub frame_other : (r : Option Frame) → (m.class ≡ class.heading → ⊥) → r ≡ unframed → r ≡ frame_of (pieces_in t count)
    unfolding frame_of kinds_at
    frame_other r g q = rw (pieces_are, first_piece n t 0 size f (omega arith), ← p, ne_eqb m.class class.heading g) q

    pub frame_headed : (r : Option Frame) (name : ℕ) → m.class ≡ class.heading → name ≡ name_of 0 m.place → r ≡ framed_from name size (kind_pieces (drop size (kinds_of n t))) → r ≡ frame_of (pieces_in t count)
    unfolding frame_of kinds_at
    frame_headed r name g k q =
        let long = piece_length n t 0 size (size_inside n t 0 size f (omega arith)) in
        rw (pieces_are, first_piece n t 0 size f (omega arith), ← p, eq-eqb m.class class.heading g, long, ← k, zero-add size) q

  pub head_inside : (size : ℕ) → size ≡ piece_size closes_piece opens_piece (drop 0 (kinds_of n t)) → (n ≡ 0 → ⊥) → size ≤ n
  head_inside size f h = omega (arith, size_inside n t 0 size f (omega arith))

  pub head_room : (size : ℕ) → size ≡ piece_size closes_piece opens_piece (drop 0 (kinds_of n t)) → (n ≡ 0 → ⊥) → 0 + size ≤ n
  head_room size f h = size_inside n t 0 size f (omega arith)
