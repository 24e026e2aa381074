-- Pieces of elements and pieces of their kinds: one cut. Assumes nothing.
use mathlib.Core.Path.{◌≡◌, refl, ap, ◌∙◌}
use mathlib.Core.Bool.{Bool, true, false, ◌||◌}
use mathlib.Core.List.{List, [], ◌∷◌, ◌++◌}
use Prim.Native.Nat.{ℕ, zero, suc, ◌+◌, ◌<◌}
use native.Mathlib.Nat.{zero-add, suc-add, add_assoc}
use native.Mathlib.Omega.{arith}
use lib.ListN.{length, get_or, length-append}
use Rattle.pieces.specs.Cutting.{cut, joined, put_front}
use Rattle.pieces.specs.Kinds.{closes_piece, opens_piece}
use Rattle.pieces.specs.Kinds as by-kinds
use Rattle.meaning.specs.Elements.{Element, Piece, nothing, at}
use Rattle.meaning.specs.Pieces.{kinds_in_piece, cuts_after, cuts_before}

-- the kinds of pieces, one by one
unfoldable pub kinds_each : List Piece → List (List ℕ)
kinds_each [] = []
kinds_each (p ∷ ps) = kinds_in_piece p ∷ kinds_each ps

front : (x : Element) (ps : List Piece) → kinds_each (put_front cuts_after cuts_before x ps) ≡ put_front closes_piece opens_piece x.kind (kinds_each ps)
unfolding kinds_each kinds_in_piece
front x [] = refl
front x (p ∷ ps) = refl

join : (b : Bool) (x : Element) (ps : List Piece) → kinds_each (joined cuts_after cuts_before b x ps) ≡ joined closes_piece opens_piece b x.kind (kinds_each ps)
unfolding kinds_each kinds_in_piece
join true x ps = refl
join false x ps = front x ps

pub cut_kinds : (l : List Element) → kinds_each (cut cuts_after cuts_before l) ≡ by-kinds.kind_pieces (kinds_in_piece l)
unfolding kinds_each kinds_in_piece cut
cut_kinds [] = refl
cut_kinds (x ∷ []) = refl
cut_kinds (x ∷ y ∷ l) =
    join (cuts_after x || cuts_before y) x (cut cuts_after cuts_before (y ∷ l))
    ∙ ap (λ (ps : List (List ℕ)). joined closes_piece opens_piece (closes_piece x.kind || opens_piece y.kind) x.kind ps) (cut_kinds (y ∷ l))

-- pieces one after the other
unfoldable pub join_all : List Piece → List Element
join_all [] = []
join_all (p ∷ ps) = p ++ join_all ps

-- how many elements they have
unfoldable pub total : List Piece → ℕ
total [] = 0
total (p ∷ ps) = length p + total ps

joins_front : (x : Element) (ps : List Piece) → join_all (put_front cuts_after cuts_before x ps) ≡ x ∷ join_all ps
unfolding join_all
joins_front x [] = refl
joins_front x (p ∷ ps) = refl

joins_join : (b : Bool) (x : Element) (ps : List Piece) → join_all (joined cuts_after cuts_before b x ps) ≡ x ∷ join_all ps
unfolding join_all
joins_join true x ps = refl
joins_join false x ps = joins_front x ps

-- the pieces are the elements, nothing lost
pub cut_joins : (l : List Element) → join_all (cut cuts_after cuts_before l) ≡ l
unfolding join_all cut
cut_joins [] = refl
cut_joins (x ∷ []) = refl
cut_joins (x ∷ y ∷ l) = joins_join (cuts_after x || cuts_before y) x (cut cuts_after cuts_before (y ∷ l)) ∙ ap (λ (m : List Element). x ∷ m) (cut_joins (y ∷ l))

at_front : (p l : List Element) (i : ℕ) → i < length p → at (p ++ l) i ≡ at p i
unfolding at
at_front [] l i h = absurd (omega arith)
at_front (x ∷ p) l zero h = refl
at_front (x ∷ p) l (suc i) h = at_front p l i (omega arith)

at_behind : (p l : List Element) (i : ℕ) → at (p ++ l) (length p + i) ≡ at l i
unfolding at
at_behind [] l i = ap (λ (j : ℕ). get_or l j nothing) (zero-add i)
at_behind (x ∷ p) l i = ap (λ (j : ℕ). get_or (x ∷ (p ++ l)) j nothing) (suc-add (length p) i) ∙ at_behind p l i

-- element i of a piece is the element so many after the pieces before it
pub at_piece : (before : List Piece) (p : Piece) (after : List Piece) (i : ℕ) → i < length p → at (join_all (before ++ p ∷ after)) (total before + i) ≡ at p i
unfolding join_all total
at_piece [] p after i h = ap (at (p ++ join_all after)) (zero-add i) ∙ at_front p (join_all after) i h
at_piece (q ∷ before) p after i h =
    ap (at (q ++ join_all (before ++ p ∷ after))) (add_assoc (length q) (total before) i)
    ∙ at_behind q (join_all (before ++ p ∷ after)) (total before + i)
    ∙ at_piece before p after i h

pub total_append : (ps qs : List Piece) → total (ps ++ qs) ≡ total ps + total qs
unfolding total
total_append [] qs = omega arith
total_append (p ∷ ps) qs = omega (arith, total_append ps qs)

pub total_joins : (ps : List Piece) → length (join_all ps) ≡ total ps
unfolding join_all total
total_joins [] = refl
total_joins (p ∷ ps) = length-append p (join_all ps) ∙ ap (λ (n : ℕ). length p + n) (total_joins ps)

pub kinds_length : (p : Piece) → length (kinds_in_piece p) ≡ length p
unfolding kinds_in_piece
kinds_length [] = refl
kinds_length (x ∷ p) = ap suc (kinds_length p)
