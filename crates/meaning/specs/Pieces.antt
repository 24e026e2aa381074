-- The pieces that the elements of a text are cut into, and what a piece is by its kinds (01, "Pieces, items, states"). Assumes nothing.
use Rattle.std.specs.Prelude.{ℕ, Bool, List, [], ◌∷◌, take, drop}
use Rattle.elements.specs.Kinds.{kind_number}
use Rattle.element_reading.specs.Rows.{ElementRow, rows_of}
use Rattle.pieces.specs.Cutting.{cut}
use Rattle.pieces.specs.Kinds.{closes_piece, opens_piece, piece_class}
use Rattle.meaning.specs.Elements.{Element, Piece}

-- the elements of the rows of a text
unfoldable pub elements_of : List ℕ → List ElementRow → List Element
elements_of text [] = []
elements_of text (r ∷ rs) = record { kind = kind_number r.kind; bytes = take r.size (drop r.first text) } ∷ elements_of text rs

-- "Elements are cut after each `;` and before each of the words constant, subtype, end."
abbrev pub cuts_after : Element → Bool
cuts_after x = closes_piece x.kind

abbrev pub cuts_before : Element → Bool
cuts_before x = opens_piece x.kind

-- the pieces of a text
unfoldable pub pieces_of : List ℕ → List Piece
pieces_of text = cut cuts_after cuts_before (elements_of text (rows_of text))

-- its kinds, and its class
unfoldable pub kinds_in_piece : Piece → List ℕ
kinds_in_piece [] = []
kinds_in_piece (x ∷ p) = x.kind ∷ kinds_in_piece p

-- the class of a piece
abbrev pub class_of : Piece → ℕ
class_of p = (piece_class (kinds_in_piece p)).class
