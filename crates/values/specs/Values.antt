-- What a name gives to those that use it, the language's or an item's: 01's section "Pieces, items, states". Assumes nothing.
use Rattle.std.specs.Prelude.{ℕ, zero, suc, true, false, List, [], ◌∷◌, get_or, pos, neg_ℤ}
use Rattle.integers.specs.Integers.{largest}
use Rattle.states.specs.States as state
use Rattle.values.specs.declared.Value.{Value}
use Rattle.values.specs.declared.Value.TheVariants.{Number, Truth, Range, Truths, Without}

-- "The names integer, natural, positive, boolean, true, false are claimed by the language": what they come to, in that order; "integer begins at
-- -2147483647"
abbrev pub language_values : List Value
language_values =
    Range (neg_ℤ (pos largest)) (pos largest) ∷ Range (pos 0) (pos largest) ∷ Range (pos 1) (pos largest) ∷ Truths ∷ Truth true ∷ Truth false ∷ []

-- by their numbers, from 1; any other number is 4, "a name used with no claim above"
unfoldable pub language_value : ℕ → Value
language_value zero = Without state.unknown
language_value (suc k) = get_or language_values k (Without state.unknown)

-- what an item comes to for those that use its name
abbrev pub lean_of : Value → Value
lean_of (Number z) = Number z
lean_of (Truth t) = Truth t
lean_of (Range low high) = Range low high
lean_of Truths = Truths
lean_of (Without s) = Without state.leans
