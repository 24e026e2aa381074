-- The kinds of elements that pieces are told by, and what a piece is by its kinds. Assumes nothing.
use Rattle.std.specs.Prelude.{ℕ, ◌+◌, Bool, false, cond, ◌&&◌, ◌||◌, List, [], ◌∷◌, eqb, length, get_or, take, drop}
use Rattle.places.specs.Kinds.{is_name}
use Rattle.places.specs.Places.{kinds_of}
use Rattle.pieces.specs.Classes as class
use Rattle.pieces.specs.Cutting.{cut}
use Rattle.pieces.specs.declared.PieceClass.{PieceClass}

-- the numbers of the kinds by which pieces are told: `;` and six words
abbrev pub semicolon : ℕ
semicolon = 26

abbrev pub word_constant : ℕ
word_constant = 53

abbrev pub word_downto : ℕ
word_downto = 58

abbrev pub word_end : ℕ
word_end = 61

abbrev pub word_is : ℕ
word_is = 78

abbrev pub word_package : ℕ
word_package = 98

abbrev pub word_subtype : ℕ
word_subtype = 129

-- a class and a place
abbrev pub class_at : ℕ → ℕ → PieceClass
class_at c p = record { class = c; place = p }

-- the kinds of the elements of a piece
unfoldable pub kinds_at : ℕ → List ℕ → ℕ → ℕ → List ℕ
kinds_at n table from count = take count (drop from (kinds_of n table))

-- "after each `;`"
abbrev pub closes_piece : ℕ → Bool
closes_piece k = eqb k semicolon

-- "before each of the words constant, subtype, end"
abbrev pub opens_piece : ℕ → Bool
opens_piece k = eqb k word_constant || eqb k word_subtype || eqb k word_end

-- the pieces, each as its kinds
abbrev pub kind_pieces : List ℕ → List (List ℕ)
kind_pieces ks = cut closes_piece opens_piece ks

-- "a heading (package N is)": its three elements, of which `is` is the last
abbrev pub heading_size : ℕ
heading_size = 3

abbrev pub heading_end : ℕ
heading_end = 2

unfoldable pub is_heading : List ℕ → Bool
is_heading p = eqb (length p) heading_size && ((eqb (get_or p 0 0) word_package && is_name (get_or p 1 0)) && eqb (get_or p heading_end 0) word_is)

-- "a closing (end [package] [N];)": the place after `end` and perhaps `package`, and whether a name stands there
abbrev pub behind_both : ℕ
behind_both = 2

unfoldable pub behind_word : List ℕ → ℕ
behind_word p = cond (eqb (get_or p 1 0) word_package) behind_both 1

unfoldable pub has_name : List ℕ → Bool
has_name p = is_name (get_or p (behind_word p) 0)

-- the piece begins with `end`, and its last element is a `;` at a place
unfoldable pub ends_at : List ℕ → ℕ → Bool
ends_at p at = (eqb (get_or p 0 0) word_end && eqb (get_or p at 0) semicolon) && eqb (length p) (at + 1)

unfoldable pub is_closing : List ℕ → Bool
is_closing p = ends_at p (cond (has_name p) (behind_word p + 1) (behind_word p))

-- "A piece claims a name if it begins with constant or subtype and then a name, broken or not": the class, and the name's place
abbrev pub claim_of : ℕ → PieceClass
claim_of k = cond (eqb k word_constant) (class_at class.constant 1) (cond (eqb k word_subtype) (class_at class.subtype 1) (class_at class.unclaimed 0))

unfoldable pub claim_class : List ℕ → PieceClass
claim_class p = cond (is_name (get_or p 1 0)) (claim_of (get_or p 0 0)) (class_at class.unclaimed 0)

-- "class 1 to 5: heading, closing, constant, subtype, unclaimed", and the name's place in the piece, 0 where there is none
unfoldable pub piece_class : List ℕ → PieceClass
piece_class p = cond (is_heading p) (class_at class.heading 1) (cond (is_closing p) (class_at class.closing (cond (has_name p) (behind_word p) 0)) (claim_class p))

-- the word downto stands among these: the direction of a subtype's range
unfoldable pub any_down : List ℕ → Bool
any_down [] = false
any_down (k ∷ ks) = eqb k word_downto || any_down ks
