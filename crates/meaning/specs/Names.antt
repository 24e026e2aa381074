-- Which pieces claim a name, and what a name comes to where it is used (01, "Pieces, items, states"). Assumes nothing.
use Rattle.std.specs.Prelude.{ℕ, ◌+◌, Bool, true, false, cond, not, ◌&&◌, ◌||◌, List, [], ◌∷◌, eqb, leb}
use Rattle.same_names.specs.Spelling.{spelt, by_kind}
use Rattle.spelled.specs.Spelled.{kind_of}
use Rattle.records.specs.Counting.{one_if}
use Rattle.names.specs.Language.{language_names, language_number}
use Rattle.values.specs.Values.{language_value, lean_of}
use Rattle.values.specs.declared.Value.{Value}
use Rattle.states.specs.States as state
use Rattle.places.specs.Kinds.{identifier_kind, is_name}
use Rattle.meaning.specs.Elements.{Element, Piece, at}

-- case is ignored, but in extended identifiers, which "keep case and equal no basic identifier"
unfoldable pub same_as : Element → Element → Bool
same_as x y = cond (eqb x.kind y.kind) (by_kind x.kind (spelt true x.bytes y.bytes) (spelt false x.bytes y.bytes)) false

-- "A piece claims a name if it begins with constant or subtype and then a name, broken or not": the names that it claims, none or one
abbrev pub own_name : Piece → Element
own_name p = at p 1

unfoldable pub begins_claim : Piece → Bool
begins_claim p = (eqb (at p 0).kind (kind_of "constant") || eqb (at p 0).kind (kind_of "subtype")) && is_name (own_name p).kind

unfoldable pub names_claimed : Piece → List Element
names_claimed p = cond (begins_claim p) (own_name p ∷ []) []

-- x is one of these names
abbrev pub is_one_of : Element → List Element → Bool
is_one_of x [] = false
is_one_of x (y ∷ ys) = same_as y x || is_one_of x ys

unfoldable pub claims : Element → Piece → Bool
claims x p = is_one_of x (names_claimed p)

-- "The names integer, natural, positive, boolean, true, false are claimed by the language already": its number, else 0
abbrev pub language : Element → ℕ
language x = cond (eqb x.kind identifier_kind) (language_number (spelt true x.bytes) 1 language_names) 0

-- how many claims a name has in a text, the language's included
unfoldable pub claims_in : Element → List Piece → ℕ
claims_in x [] = one_if (not (eqb (language x) 0))
claims_in x (p ∷ ps) = one_if (claims x p) + claims_in x ps

-- "its name has another claim anywhere, the language's included"
abbrev pub twice : ℕ
twice = 2

abbrev pub is_doubled : List Piece → Element → Bool
is_doubled all x = leb twice (claims_in x all)

-- one of these names is
abbrev pub any_doubled : List Piece → List Element → Bool
any_doubled all [] = false
any_doubled all (x ∷ xs) = is_doubled all x || any_doubled all xs

-- "its name": one of those that the piece claims
abbrev pub own_doubled : List Piece → Piece → Bool
own_doubled all p = any_doubled all (names_claimed p)

-- a piece, and what it comes to
pub record Done : Type 0 where
  pub piece : Piece
  pub value : Value

-- "Names resolve upward only": a claim above, the language's being above all
unfoldable pub claimed_above : Element → List Done → Bool
claimed_above x [] = not (eqb (language x) 0)
claimed_above x (d ∷ ds) = claims x d.piece || claimed_above x ds

-- what the first claim above comes to
unfoldable pub first_above : Element → List Done → Value
first_above x [] = language_value (language x)
first_above x (d ∷ ds) = elim (claims x d.piece) [ true ↦ d.value | false ↦ first_above x ds ]

-- a name used below `above` in the text `all`; 4, "a name used with no claim above"; 5, "a name used that is doubled, or whose item isn't in
-- state 0"
unfoldable pub use_of : List Piece → List Done → Element → Value
use_of all above x = cond (claimed_above x above) (cond (is_doubled all x) (Value.Without state.leans) (lean_of (first_above x above))) (Value.Without state.unknown)
