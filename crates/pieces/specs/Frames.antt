-- What the pieces say of the frame, each as its kinds: "the first piece is a heading, the last a closing, no other is either", and which
-- elements their names are. Assumes nothing.
use Rattle.std.specs.Prelude.{ℕ, ◌+◌, cond, List, [], ◌∷◌, eqb, length, Option, Some, None}
use Rattle.places.specs.declared.ElementNumber.{ElementNumber}
use Rattle.pieces.specs.Classes as class
use Rattle.pieces.specs.Classes.{is_either}
use Rattle.pieces.specs.Kinds.{piece_class}
use Rattle.pieces.specs.Records.{name_of}
use Rattle.pieces.specs.declared.PieceClass.{PieceClass}
use Rattle.pieces.specs.declared.Frame.{Frame}

-- the element of a closing's name, of a piece that begins at the element `at`, if it has one
unfoldable pub closing_name : ℕ → ℕ → Option ElementNumber
closing_name at place = cond (eqb place 0) None (Some (record { 0 = at + place }))

-- from a heading to a closing, with the elements of their names
abbrev pub framed : ℕ → Option ElementNumber → Option Frame
framed heading closing = Some (record { heading = record { 0 = heading }; closing = closing })

abbrev pub unframed : Option Frame
unframed = None

-- the last piece, which begins at the element `at`
unfoldable pub last_framed : ℕ → ℕ → PieceClass → Option Frame
last_framed heading at m = cond (eqb m.class class.closing) (framed heading (closing_name at m.place)) unframed

-- the pieces after a heading, the first of which begins at the element `at`
unfoldable pub framed_from : ℕ → ℕ → List (List ℕ) → Option Frame
framed_from heading at [] = unframed
framed_from heading at (p ∷ []) = last_framed heading at (piece_class p)
framed_from heading at (p ∷ (q ∷ ps)) = cond (is_either (piece_class p).class) unframed (framed_from heading (at + length p) (q ∷ ps))

unfoldable pub frame_of : List (List ℕ) → Option Frame
frame_of [] = unframed
frame_of (p ∷ ps) = cond (eqb (piece_class p).class class.heading) (framed_from (name_of 0 (piece_class p).place) (length p) ps) unframed
