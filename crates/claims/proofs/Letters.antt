-- With what byte names begin: an identifier with a letter, an extended one with a backslash. Assumes nothing.
use Prim.Native.Nat.{ℕ}
use mathlib.Core.Path.{◌≡◌, ap, subst, ◌∙◌}
use mathlib.Core.Bool.{true, false}
use mathlib.Core.List.{List, [], ◌∷◌, ◌++◌}
use lib.ListN.{length, get_or}
use lib.Seq.{get_or-append_seam}
use Rattle.places.specs.Kinds.{identifier_kind, extended_kind}
use Rattle.classes.specs.Signs as sign
use Rattle.classes.specs.Bytes.{is_letter}
use Rattle.meaning.specs.Elements.{Element, Piece, at}
use Rattle.meaning.specs.Pieces.{pieces_of}
use Rattle.meaning.specs.Together.{piece_at}
use Rattle.names_alone.specs.Alone.{Alone}
use Rattle.names_alone.proofs.Names.{basic_is, extended_is}
use Rattle.names_alone.proofs.Promises.{names_alone}

-- an element that is a name begins as its kind says
abbrev pub Named : Element → Type 0
Named x = (x.kind ≡ identifier_kind → is_letter (get_or x.bytes 0 0) ≡ true) × (x.kind ≡ extended_kind → get_or x.bytes 0 0 ≡ sign.backslash)

-- the elements of a text's pieces
pub piece_named : (s : List ℕ) (a : List Piece) (p : Piece) (c : List Piece) (i : ℕ) → pieces_of s ≡ a ++ p ∷ c → Named (at p i)
piece_named s a p c i e =
    let h : Alone (at p i) = subst (λ (q : Piece). Alone (at q i)) (ap (λ (ps : List Piece). piece_at ps (length a)) e ∙ get_or-append_seam a p c []) (names_alone s (length a) i) in
    let n = (at p i).bytes in
    ((λ k. (basic_is false n (length n) (h.0 k)).letter), λ k. (extended_is false n (length n) (h.1 k)).first)
