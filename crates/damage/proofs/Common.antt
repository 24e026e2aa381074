-- Two texts with the same elements above a change and below it: elements outside the change that are the same are one, and pieces that end
-- above it or begin below it are in both. Assumes nothing.
use Prim.Native.Nat.{ℕ}
use mathlib.Core.Path.{◌≡◌, refl, sym, ap, ap₂, subst, ◌∙◌}
use mathlib.Core.Logic.{◌⊎◌, inl, inr}
use mathlib.Core.Bool.{Bool, true, false, ◌||◌}
use mathlib.Core.List.{List, [], ◌∷◌, ◌++◌, append_assoc}
use native.Mathlib.Omega.{arith}
use lib.Dec.{T}
use Rattle.pieces.specs.Cutting.{cut}
use Rattle.pieces.proofs.Cutting.{Edge}
use Rattle.damage.specs.PlacedElements.{In, LineNumber, Above, Changed, Below, Placed, placed, PlacedPiece, closes_part, opens_part, parts_of, SameEach, PieceOf}
use Rattle.damage.specs.Damage.{olds, news, NoneChanged, HasPiece, ClosedAbove, OpenedBelow}
use Rattle.damage.specs.code.Texts.{AlwaysCommon}
use Rattle.damage.proofs.Order.{in_left, in_right, in_either, in_split, in_middle, Rising, ordered}
use Rattle.damage.proofs.Lines.{region, Before, before_apart, before_never, before_both, Lying, lying_left, lying_right, lying_in, uppers, middles, lowers, uppers_lie, middles_lie, lowers_lie}
use Rattle.damage.proofs.Cuts.{join_all, Lone, lone_piece, Stands, piece_stands}

-- none of these elements is of the region r: above the change, 0, of it, 1, or below it, 2
abbrev pub AllNot : ℕ → PlacedPiece → Type 0
AllNot r [] = Unit {0}
AllNot r (x ∷ p) = (region x.line ≡ r → ⊥) × AllNot r p

not_append : (r : ℕ) (p q : PlacedPiece) → AllNot r p → AllNot r q → AllNot r (p ++ q)
not_append r [] q f g = g
not_append r (x ∷ p) q f g = (f.0, not_append r p q f.1 g)

not_in : (r : ℕ) (x : Placed) (p : PlacedPiece) → AllNot r p → In x p → region x.line ≡ r → ⊥
not_in r x [] h k = elim k [ ]
not_in r x (y ∷ p) h (inl e) = subst (λ z. region z.line ≡ r → ⊥) e h.0
not_in r x (y ∷ p) h (inr k) = not_in r x p h.1 k

lying_not : (q m r : ℕ) (p : PlacedPiece) → (q ≡ r → ⊥) → Lying q m p → AllNot r p
lying_not q m r [] n h = tt
lying_not q m r (x ∷ p) n h = ((λ e. n (sym h.0 ∙ e)), lying_not q m r p n h.2)

-- of the change, or not
changed_region : (l : LineNumber) → ((k : ℕ) → l ≡ Changed k → ⊥) → region l ≡ 1 → ⊥
changed_region (Above k) h e = omega arith
changed_region (Changed k) h e = h k refl
changed_region (Below k) h e = omega arith

none_out : (p : PlacedPiece) → NoneChanged p → AllNot 1 p
none_out [] h = tt
none_out (x ∷ p) h = (changed_region x.line h.0, none_out p h.1)

lying_none : (r m : ℕ) (p : PlacedPiece) → (r ≡ 1 → ⊥) → Lying r m p → NoneChanged p
lying_none r m [] n h = tt
lying_none r m (x ∷ p) n h = ((λ k e. n (sym h.0 ∙ ap region e)), lying_none r m p n h.2)

-- the elements of two texts: the same above and below, others between
pub record Parted (S T : PlacedPiece) : Type 0 where
  pub above : PlacedPiece
  pub old : PlacedPiece
  pub new : PlacedPiece
  pub below : PlacedPiece
  pub first : S ≡ above ++ (old ++ below)
  pub second : T ≡ above ++ (new ++ below)
  pub above_lies : Lying 0 0 above
  pub old_lies : Lying 1 0 old
  pub new_lies : Lying 1 0 new
  pub below_lies : Lying 2 0 below

-- two texts around a change are parted there
pub parted : (before middle changed after : List ℕ) → Parted (placed before middle after) (placed before changed after)
unfolding placed
parted before middle changed after =
    record {
      above = uppers before;
      old = middles middle;
      new = middles changed;
      below = lowers after;
      first = refl;
      second = refl;
      above_lies = uppers_lie before;
      old_lies = middles_lie middle;
      new_lies = middles_lie changed;
      below_lies = lowers_lie after;
    }

module _ (S T : PlacedPiece) (d : Parted S T) where
  -- an element outside the change is in both
  others : (x : Placed) → In x T → (region x.line ≡ 1 → ⊥) → In x S
  others x h o = subst (λ l. In x l) (sym d.first) (go (in_either x d.above (d.new ++ d.below) (subst (λ l. In x l) d.second h)))
    where
      next : In x d.new ⊎ In x d.below → In x (d.above ++ (d.old ++ d.below))
      next (inl m) = absurd (o (lying_in 1 0 x d.new d.new_lies m).0)
      next (inr m) = in_right x d.above (d.old ++ d.below) (in_right x d.old d.below m)

      go : In x d.above ⊎ In x (d.new ++ d.below) → In x (d.above ++ (d.old ++ d.below))
      go (inl m) = in_left x d.above (d.old ++ d.below) m
      go (inr m) = next (in_either x d.new d.below m)

  -- the same elements outside the change are one
  one_element : Rising Before S → (x y : Placed) → In x S → In y T → x.line ≡ y.line → x.place ≡ y.place → (region x.line ≡ 1 → ⊥) → x ≡ y
  one_element r x y h g e f o = go (ordered Before before_never before_both S x y r h (others y g (subst (λ (l : LineNumber). region l ≡ 1 → ⊥) e o)))
    where
      go : Before x y ⊎ ((x ≡ y) ⊎ Before y x) → x ≡ y
      go (inl z) = absurd (before_apart x y e f z)
      go (inr (inl z)) = z
      go (inr (inr z)) = absurd (before_apart y x (sym e) (sym f) z)

  one_part : Rising Before S → (p q : PlacedPiece) → SameEach p q → AllNot 1 p → ((x : Placed) → In x p → In x S) → ((x : Placed) → In x q → In x T) → p ≡ q
  one_part r [] [] e o f g = refl
  one_part r [] (y ∷ q) e o f g = absurd e
  one_part r (x ∷ p) [] e o f g = absurd e
  one_part r (x ∷ p) (y ∷ q) e o f g =
      ap₂ (λ (a : Placed) (b : PlacedPiece). a ∷ b) (one_element r x y (f x (inl refl)) (g y (inl refl)) e.0.0 e.0.1 o.0)
      (one_part r p q e.1 o.1 (λ z h. f z (inr h)) (λ z h. g z (inr h)))

-- elements of a piece are elements of the text
piece_in : (S : PlacedPiece) (ps : List PlacedPiece) (p : PlacedPiece) (qs : List PlacedPiece) → parts_of S ≡ ps ++ p ∷ qs → (x : Placed) → In x p → In x S
unfolding parts_of
piece_in S ps p qs e x h =
    let st = piece_stands closes_part opens_part ps p qs S e in
    subst (λ l. In x l) (sym st.0)
    (in_right x (join_all closes_part opens_part ps) (p ++ join_all closes_part opens_part qs) (in_left x p (join_all closes_part opens_part qs) h))

-- of a piece of each text, the same element for element and none of the change
pub one_piece : (S T : PlacedPiece) → Parted S T → Rising Before S → (p q : PlacedPiece) → PieceOf (parts_of S) p → PieceOf (parts_of T) q → SameEach p q → NoneChanged p → p ≡ q
one_piece S T d r p q i j s o =
    one_part S T d r p q s (none_out p o) (piece_in S i.above p i.below i.split) (piece_in T j.above q j.below j.split)

-- two ways to part a list
overlap : (u b v c : PlacedPiece) → u ++ b ≡ v ++ c
    → ((w : PlacedPiece) × (v ≡ u ++ w) × (b ≡ w ++ c)) ⊎ ((y : Placed) × (w : PlacedPiece) × (u ≡ v ++ y ∷ w) × (c ≡ y ∷ (w ++ b)))
overlap [] b v c e = inl (v, refl, e)
overlap (x ∷ u) b [] c e = inr (x, u, refl, sym e)
overlap (x ∷ u) b (z ∷ v) c e = let f : x ≡ z = cc in go f (overlap u b v c (cc))
  where
    go : x ≡ z → ((w : PlacedPiece) × (v ≡ u ++ w) × (b ≡ w ++ c)) ⊎ ((y : Placed) × (w : PlacedPiece) × (u ≡ v ++ y ∷ w) × (c ≡ y ∷ (w ++ b)))
        → ((w : PlacedPiece) × (z ∷ v ≡ x ∷ (u ++ w)) × (b ≡ w ++ c)) ⊎ ((y : Placed) × (w : PlacedPiece) × (x ∷ u ≡ z ∷ (v ++ y ∷ w)) × (c ≡ y ∷ (w ++ b)))
    go f (inl h) = inl (h.0, ap₂ (λ (a : Placed) (l : PlacedPiece). a ∷ l) (sym f) h.1, h.2)
    go f (inr h) = inr (h.0, h.1, ap₂ (λ (a : Placed) (l : PlacedPiece). a ∷ l) f h.2, h.3)

-- the last element stands above the change
abbrev LastAbove : PlacedPiece → Type 0
LastAbove [] = ⊥
LastAbove (x ∷ []) = region x.line ≡ 0
LastAbove (x ∷ y ∷ p) = LastAbove (y ∷ p)

last_closed : (p : PlacedPiece) → ClosedAbove p → LastAbove p
last_closed [] h = h
last_closed (x ∷ []) h = ap region h.1.1
last_closed (x ∷ y ∷ p) h = last_closed (y ∷ p) h

last_behind : (a : PlacedPiece) (x : Placed) (p : PlacedPiece) → LastAbove (x ∷ p) → LastAbove (a ++ x ∷ p)
last_behind [] x p h = h
last_behind (y ∷ []) x p h = h
last_behind (y ∷ z ∷ a) x p h = last_behind (z ∷ a) x p h

last_part : (a : PlacedPiece) (x : Placed) (p : PlacedPiece) → LastAbove (a ++ x ∷ p) → LastAbove (x ∷ p)
last_part [] x p h = h
last_part (y ∷ []) x p h = h
last_part (y ∷ z ∷ a) x p h = last_part (z ∷ a) x p h

last_low : (x : Placed) (p q : PlacedPiece) → LastAbove (x ∷ p) → AllNot 0 (x ∷ (p ++ q)) → ⊥
last_low x [] q h k = k.0 h
last_low x (y ∷ p) q h k = last_low y p q h k.1

closed_edge : (p b : PlacedPiece) → ClosedAbove p → Edge closes_part opens_part p b
closed_edge [] b h = absurd h
closed_edge (x ∷ []) [] h = tt
closed_edge (x ∷ []) (y ∷ b) h = subst (λ c. T (c || opens_part y)) (sym h.0) tt
closed_edge (x ∷ y ∷ p) b h = closed_edge (y ∷ p) b h

T-or : (a b : Bool) → b ≡ true → T (a || b)
T-or true b e = tt
T-or false b e = subst T (sym e) tt

open_edge : (a : PlacedPiece) (x : Placed) (p : PlacedPiece) → opens_part x ≡ true → Edge closes_part opens_part a (x ∷ p)
open_edge [] x p h = tt
open_edge (y ∷ []) x p h = T-or (closes_part y) (opens_part x) h
open_edge (y ∷ z ∷ a) x p h = open_edge (z ∷ a) x p h

abbrev cuts : PlacedPiece → List PlacedPiece
cuts l = cut closes_part opens_part l

lone_in : (a p b T : PlacedPiece) → Lone closes_part opens_part a p b → T ≡ a ++ (p ++ b) → In p (cuts T)
lone_in a p b T n e = subst (λ l. In p l) (sym (ap cuts e ∙ lone_piece closes_part opens_part a p b n)) (in_middle p (cuts a) (cuts b))

module _ (S T : PlacedPiece) (d : Parted S T) (ps : List PlacedPiece) (p : PlacedPiece) (qs : List PlacedPiece) (e : cuts S ≡ ps ++ p ∷ qs) where
  abbrev ahead : PlacedPiece
  ahead = join_all closes_part opens_part ps

  abbrev behind : PlacedPiece
  behind = join_all closes_part opens_part qs

  stood : Stands closes_part opens_part ps p qs S
  stood = piece_stands closes_part opens_part ps p qs S e

  -- a piece closed above is in both
  closed_both : ClosedAbove p → In p (cuts T) × Lying 0 0 p
  closed_both h = go (overlap (ahead ++ p) behind d.above (d.old ++ d.below) (append_assoc ahead p behind ∙ sym stood.0 ∙ d.first))
    where
      lone : (b : PlacedPiece) → Lone closes_part opens_part ahead p b
      lone b =
          record { first = stood.1.first; rest = stood.1.rest; some = stood.1.some; one = stood.1.one; front = stood.1.front; back = closed_edge p b h }

      last : LastAbove (ahead ++ p)
      last =
          subst (λ l. LastAbove (ahead ++ l)) (sym stood.1.some)
          (last_behind ahead stood.1.first stood.1.rest (subst (λ l. LastAbove l) stood.1.some (last_closed p h)))

      low : AllNot 0 (d.old ++ d.below)
      low = not_append 0 d.old d.below (lying_not 1 0 0 d.old (λ z. omega arith) d.old_lies) (lying_not 2 0 0 d.below (λ z. omega arith) d.below_lies)

      go : ((w : PlacedPiece) × (d.above ≡ (ahead ++ p) ++ w) × (behind ≡ w ++ (d.old ++ d.below)))
          ⊎ ((y : Placed) × (w : PlacedPiece) × (ahead ++ p ≡ d.above ++ y ∷ w) × (d.old ++ d.below ≡ y ∷ (w ++ behind)))
          → In p (cuts T) × Lying 0 0 p
      go (inl (w, f, g)) = (
        lone_in ahead p (w ++ (d.new ++ d.below)) T (lone (w ++ (d.new ++ d.below)))
            (d.second ∙ ap (λ (l : PlacedPiece). l ++ (d.new ++ d.below)) f ∙ append_assoc (ahead ++ p) w (d.new ++ d.below) ∙ append_assoc ahead p (w ++ (d.new ++ d.below))),
        lying_right 0 0 ahead p (lying_left 0 0 (ahead ++ p) w (subst (λ l. Lying 0 0 l) f d.above_lies)),
      )
      go (inr (y, w, f, g)) = absurd (last_low y w behind (last_part d.above y w (subst (λ l. LastAbove l) f last)) (subst (λ l. AllNot 0 l) g low))

  -- a piece opened below is in both
  opened_both : (x : Placed) (r : PlacedPiece) → p ≡ x ∷ r → opens_part x ≡ true → region x.line ≡ 2 → In p (cuts T) × Lying 2 0 p
  opened_both x r s h l = go (overlap (d.above ++ d.old) d.below ahead (p ++ behind) (append_assoc d.above d.old d.below ∙ sym d.first ∙ stood.0))
    where
      lone : (a : PlacedPiece) → Lone closes_part opens_part a p behind
      lone a =
          record {
            first = stood.1.first;
            rest = stood.1.rest;
            some = stood.1.some;
            one = stood.1.one;
            front = subst (λ q. Edge closes_part opens_part a q) (sym s) (open_edge a x r h);
            back = stood.1.back;
          }

      high : AllNot 2 (d.above ++ d.old)
      high = not_append 2 d.above d.old (lying_not 0 0 2 d.above (λ z. omega arith) d.above_lies) (lying_not 1 0 2 d.old (λ z. omega arith) d.old_lies)

      go : ((w : PlacedPiece) × (ahead ≡ (d.above ++ d.old) ++ w) × (d.below ≡ w ++ (p ++ behind)))
          ⊎ ((y : Placed) × (w : PlacedPiece) × (d.above ++ d.old ≡ ahead ++ y ∷ w) × (p ++ behind ≡ y ∷ (w ++ d.below)))
          → In p (cuts T) × Lying 2 0 p
      go (inl (w, f, g)) = (
        lone_in ((d.above ++ d.new) ++ w) p behind T (lone ((d.above ++ d.new) ++ w))
            (d.second ∙ sym (append_assoc d.above d.new d.below) ∙ ap (λ (m : PlacedPiece). (d.above ++ d.new) ++ m) g ∙ sym (append_assoc (d.above ++ d.new) w (p ++ behind))),
        lying_left 2 0 p behind (lying_right 2 0 w (p ++ behind) (subst (λ m. Lying 2 0 m) g d.below_lies)),
      )
      go (inr (y, w, f, g)) =
          let z : x ∷ (r ++ behind) ≡ y ∷ (w ++ d.below) = ap (λ (m : PlacedPiece). m ++ behind) (sym s) ∙ g in
          let v : x ≡ y = cc in
          absurd (not_in 2 y (d.above ++ d.old) high (subst (λ m. In y m) (sym f) (in_middle y ahead w)) (sym (ap (λ (a : Placed). region a.line) v) ∙ l))

pub same_each : (p : PlacedPiece) → SameEach p p
same_each [] = tt
same_each (x ∷ p) = ((refl, refl, refl), same_each p)

pub piece_of : (pieces : List PlacedPiece) (p : PlacedPiece) → In p pieces → PieceOf pieces p
piece_of pieces p h = let z = in_split p pieces h in record { above = z.0; below = z.1; split = z.2 }

has : (pieces : List PlacedPiece) (p : PlacedPiece) → In p pieces → HasPiece pieces p
has pieces p h = (p, h, same_each p)

-- such a piece of one text is in the other
both : (S T : PlacedPiece) → Parted S T → (p : PlacedPiece) → In p (parts_of S) → ClosedAbove p ⊎ OpenedBelow p → In p (parts_of T) × NoneChanged p
unfolding parts_of
both S T d p h (inl c) =
    let i = piece_of (cuts S) p h in
    let z = closed_both S T d i.above p i.below i.split c in
    (z.0, lying_none 0 0 p (λ e. omega arith) z.1)
both S T d [] h (inr c) = absurd c
both S T d (x ∷ p) h (inr c) =
    let i = piece_of (cuts S) (x ∷ p) h in
    let z = opened_both S T d i.above (x ∷ p) i.below i.split x p refl c.0 (ap region c.1.1) in
    (z.0, lying_none 2 0 (x ∷ p) (λ e. omega arith) z.1)

pub always_common : AlwaysCommon
always_common s t d p (inl h) c =
    let z = both (placed d.before d.middle d.after) (placed d.before d.changed d.after) (parted d.before d.middle d.changed d.after) p h c in
    (has (olds d) p h, has (news d) p z.0, z.1)
always_common s t d p (inr h) c =
    let z = both (placed d.before d.changed d.after) (placed d.before d.middle d.after) (parted d.before d.changed d.middle d.after) p h c in
    (has (olds d) p z.0, has (news d) p h, z.1)
