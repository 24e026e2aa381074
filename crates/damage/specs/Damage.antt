-- The third demand: two texts that differ only inside one line, and what its words say of their pieces. ThirdDemand.antt has the demand. Assumes
-- nothing: these are definitions.
use Rattle.std.specs.Prelude.{ℕ, suc, ◌≤◌, ◌≡◌, ◌⊎◌, true, false, List, [], ◌∷◌, ◌++◌, length}
use Rattle.element_reading.specs.Promises.{InsideLine, Ended, StartsLine}
use Rattle.form_numbers.specs.Forms as form
use Rattle.forms.specs.Tree.{Row}
use Rattle.meaning.specs.Elements.{Element, Piece, at}
use Rattle.meaning.specs.Names.{names_claimed, claims}
use Rattle.meaning.specs.FittingPieces.{ItemTree}
use Rattle.damage.specs.PlacedElements.{In, Above, Changed, Below, placed, PlacedPiece, closes_part, opens_part, parts_of, bare, SameEach}

-- "two package texts .. that differ only inside one line, line ends kept"
pub record OneLine (s t : List ℕ) : Type 0 where
  pub before : List ℕ
  pub middle : List ℕ
  pub changed : List ℕ
  pub after : List ℕ
  pub first : s ≡ before ++ (middle ++ after)
  pub second : t ≡ before ++ (changed ++ after)
  pub begun : StartsLine before
  pub inside : InsideLine middle
  pub inside_changed : InsideLine changed
  pub ended : Ended after

-- the pieces of the first text, and those of the second
abbrev pub olds : {s t : List ℕ} → OneLine s t → List PlacedPiece
olds d = parts_of (placed d.before d.middle d.after)

abbrev pub news : {s t : List ℕ} → OneLine s t → List PlacedPiece
news d = parts_of (placed d.before d.changed d.after)

-- none of these elements is of the changed line
abbrev pub NoneChanged : PlacedPiece → Type 0
NoneChanged [] = Unit {0}
NoneChanged (x ∷ p) = ((k : ℕ) → x.line ≡ Changed k → ⊥) × NoneChanged p

-- a text has a piece, element for element
abbrev pub HasPiece : List PlacedPiece → PlacedPiece → Type 0
HasPiece pieces p = (q : PlacedPiece) × In q pieces × SameEach p q

-- "a piece is common if both texts have it, element for element, and none is of the changed line"
abbrev pub Common : List PlacedPiece → List PlacedPiece → PlacedPiece → Type 0
Common old new p = HasPiece old p × HasPiece new p × NoneChanged p

-- of the rows above a row none of form 25 or 26 holds it: each ends above it. (A row with its `rows` rows is itself and the rows inside it.)
abbrev pub NotWithin : List Row → Type 0
NotWithin [] = Unit {0}
NotWithin (r ∷ rs) = ((r.form ≡ form.called) ⊎ (r.form ≡ form.attribute) → r.rows ≤ suc (length rs)) × NotWithin rs

-- "any name it uses, directly": of its tree, the names, 24, but for those inside a form 25 or 26, which is in state 3 whatever its names are; and
-- its type mark, 31
pub record UsesName (p : Piece) (x : Element) : Type 0 where
  pub above : List Row
  pub row : Row
  pub below : List Row
  pub tree : ItemTree p (above ++ row ∷ below)
  pub looked_up : ((row.form ≡ form.name) × NotWithin above) ⊎ (row.form ≡ form.mark)
  pub named : x ≡ at p row.first

-- none of these claims x
abbrev pub NoClaim : Element → List PlacedPiece → Type 0
NoClaim x ps = (q : PlacedPiece) → In q ps → claims x (bare q) ≡ false

-- "Names resolve upward only": of the pieces of a text, q stands above p, and none above q claims x
abbrev pub FirstAbove : Element → List PlacedPiece → PlacedPiece → PlacedPiece → Type 0
FirstAbove x pieces q p = (a : List PlacedPiece) × (b : List PlacedPiece) × (c : List PlacedPiece) × (pieces ≡ a ++ q ∷ (b ++ p ∷ c)) × NoClaim x a

-- "or through other items": p leads to itself, and from each item that it leads to and each name that this one uses to the item that the name
-- resolves to, the first above that claims it
pub data LeadsTo (pieces : List PlacedPiece) (p : PlacedPiece) : PlacedPiece → Type 0 where
  itself : LeadsTo pieces p p
  through : {q r : PlacedPiece} (x : Element) → LeadsTo pieces p q → UsesName (bare q) x → claims x (bare r) ≡ true → FirstAbove x pieces r q → LeadsTo pieces p r

-- "its own name": one that it claims
abbrev pub OwnName : Piece → Element → Type 0
OwnName p x = In x (names_claimed p)

-- "its own name" or "any name it uses, directly or through other items"; for the demand one of the two texts is enough
abbrev pub Concerns : List PlacedPiece → PlacedPiece → Element → Type 0
Concerns pieces p x = OwnName (bare p) x ⊎ ((q : PlacedPiece) × LeadsTo pieces p q × UsesName (bare q) x)

-- "neither its own name nor any name it uses .. is claimed in either text by a piece not common to both"
abbrev pub Undisturbed : List PlacedPiece → List PlacedPiece → PlacedPiece → Type 0
Undisturbed old new p = (x : Element) → Concerns old p x → (q : PlacedPiece) → In q old ⊎ In q new → claims x (bare q) ≡ true → Common old new q

-- the last element of a piece closes it, and stands above the change
abbrev pub ClosedAbove : PlacedPiece → Type 0
ClosedAbove [] = ⊥
ClosedAbove (x ∷ []) = (closes_part x ≡ true) × ((k : ℕ) × (x.line ≡ Above k))
ClosedAbove (x ∷ y ∷ p) = ClosedAbove (y ∷ p)

-- the first element of a piece opens it, and stands below the change
abbrev pub OpenedBelow : PlacedPiece → Type 0
OpenedBelow [] = ⊥
OpenedBelow (x ∷ p) = (opens_part x ≡ true) × ((k : ℕ) × (x.line ≡ Below k))
