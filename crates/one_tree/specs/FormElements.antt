-- What an element is to the forms, by its class or its spelling. Assumes nothing: these are definitions, and proofs/FormElements.antt proves that it is
-- what the code's table has.
use Rattle.std.specs.Prelude.{ℕ, suc, ◌||◌, cond, List, [], ◌∷◌, eqb}
use Prim.Native.String.{String}
use Rattle.elements.specs.declared.Kind.{Kind}
use Rattle.elements.specs.declared.Literal.{Literal}
use Rattle.elements.specs.Kinds.{kind_number}
use Rattle.spelled.specs.Spelled.{kind_of}
use Rattle.forms.specs.Spellings.{identifier, spellings}

abbrev pub kinds_spelled : List String → List ℕ
kinds_spelled [] = []
kinds_spelled (s ∷ l) = kind_of s ∷ kinds_spelled l

-- the kinds of elements that the forms tell apart beside identifiers: the four literals, and what is spelled as one of their words and delimiters
unfoldable pub told : List ℕ
told =
    kind_number (Kind.Literal Literal.Integer) ∷ kind_number (Kind.Literal Literal.Real) ∷ kind_number (Kind.Literal Literal.Character)
    ∷ kind_number (Kind.Literal Literal.String) ∷ kinds_spelled spellings

-- the place of a kind among these, the first being number n; any other comes after them
abbrev pub place_among : ℕ → ℕ → List ℕ → ℕ
place_among n k [] = n
place_among n k (j ∷ l) = cond (eqb k j) n (place_among (suc n) k l)

-- what an element of kind k is to the forms
unfoldable pub form_kind : ℕ → ℕ
form_kind k = cond (eqb k (kind_number Kind.Identifier) || eqb k (kind_number Kind.Extended)) identifier (place_among (suc identifier) k told)
