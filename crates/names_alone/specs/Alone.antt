-- A name of a text, taken out of it, is still that name: what stands around it makes it no other. proofs/Promises.antt proves it. Assumes
-- nothing: these are definitions.
use Rattle.std.specs.Prelude.{ℕ, ◌≡◌, false, List, length}
use Rattle.places.specs.Kinds.{identifier_kind, extended_kind}
use Rattle.elements.specs.Element.{element_at}
use Rattle.elements.specs.declared.Kind.{Kind}
use Rattle.elements.specs.declared.Front.TheVariants as front
use Rattle.meaning.specs.Elements.{Element, at}
use Rattle.meaning.specs.Pieces.{pieces_of}
use Rattle.meaning.specs.Together.{piece_at}

-- the bytes are, whole, one element of this kind
abbrev pub ReadsAs : Kind → List ℕ → Type 0
ReadsAs k n = element_at false n ≡ front.Element k (length n)

-- an element's own bytes, where it is an identifier or an extended one, are that
abbrev pub Alone : Element → Type 0
Alone x = (x.kind ≡ identifier_kind → ReadsAs Kind.Identifier x.bytes) × (x.kind ≡ extended_kind → ReadsAs Kind.Extended x.bytes)

-- The bytes of a name of a text, by themselves, read as a name of that kind.
abbrev pub NamesAlone : Type 0
NamesAlone = (text : List ℕ) (j i : ℕ) → Alone (at (piece_at (pieces_of text) j) i)
