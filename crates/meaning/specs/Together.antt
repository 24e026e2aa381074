-- What the pieces of a package say together: frame, first pair, tally and whole (01, "Pieces, items, states"). Nothing here speaks of records.
-- Assumes nothing: these are definitions.
use Rattle.std.specs.Prelude.{ℕ, ◌+◌, ◌-◌, ◌≤◌, ◌<◌, ◌≡◌, ◌⊎◌, Bool, true, false, ◌&&◌, ◌||◌, List, [], ◌∷◌, eqb, length, get_or, Option, Some, None}
use Rattle.pieces.specs.Kinds as pieces
use Rattle.pieces.specs.Classes as class
use Rattle.pieces.specs.Classes.{is_either}
use Rattle.records.specs.Records.{is_item}
use Rattle.records.specs.Counting.{one_if}
use Rattle.values.specs.ValueWords.{state_of}
use Rattle.meaning.specs.Elements.{Element, Piece, at}
use Rattle.meaning.specs.Pieces.{kinds_in_piece, class_of}
use Rattle.meaning.specs.Names.{names_claimed, claims, Done, same_as}

-- a piece by its number, from 0
abbrev pub piece_at : List Piece → ℕ → Piece
piece_at ps i = get_or ps i []

-- where the name of a piece stands in it, 0 where it has none
abbrev pub name_place : Piece → ℕ
name_place p = (pieces.piece_class (kinds_in_piece p)).place

-- "a closing name agrees"
abbrev pub Agrees : Piece → Piece → Type 0
Agrees h c = (name_place c ≡ 0) ⊎ (same_as (at h (name_place h)) (at c (name_place c)) ≡ true)

-- "The frame is good when the first piece is a heading, the last a closing, no other is either, and a closing name agrees."
pub record GoodFrame (ps : List Piece) : Type 0 where
  pub first : class_of (piece_at ps 0) ≡ class.heading
  pub last : class_of (piece_at ps (length ps - 1)) ≡ class.closing
  pub others : (i : ℕ) → 1 ≤ i → i < length ps - 1 → is_either (class_of (piece_at ps i)) ≡ false
  pub agrees : Agrees (piece_at ps 0) (piece_at ps (length ps - 1))

-- two pieces claim one name: one of these names is claimed by a piece
abbrev pub claims_one_of : List Element → Piece → Bool
claims_one_of [] p = false
claims_one_of (x ∷ xs) p = claims x p || claims_one_of xs p

abbrev pub shares : List Piece → ℕ → ℕ → Bool
shares ps i j = claims_one_of (names_claimed (piece_at ps i)) (piece_at ps j)

-- "the first pair of own items that share a name: smallest earlier piece, then smallest later"
pub data FirstPair (ps : List Piece) : Option (ℕ × ℕ) → Type 0 where
  both : {i j : ℕ} → i < j → shares ps i j ≡ true → ((a b : ℕ) → a < b → shares ps a b ≡ true → (i ≤ a) × (a ≡ i → j ≤ b)) → FirstPair ps (Some (i, j))
  neither : ((a b : ℕ) → a < b → shares ps a b ≡ true → ⊥) → FirstPair ps None

-- "a tally of items by state": how many items are in a state
unfoldable pub count_in : ℕ → List Done → ℕ
count_in k [] = 0
count_in k (d ∷ ds) = one_if (is_item (class_of d.piece) && eqb (state_of d.value) k) + count_in k ds

-- "every item is in state 0"
abbrev pub AllFold : List Done → Type 0
AllFold [] = Unit {0}
AllFold (d ∷ ds) = (is_item (class_of d.piece) ≡ true → state_of d.value ≡ 0) × AllFold ds

-- "The survey is whole when the frame is good and every item is in state 0."
abbrev pub IsWhole : List Piece → List Done → Type 0
IsWhole ps ds = GoodFrame ps × AllFold ds
