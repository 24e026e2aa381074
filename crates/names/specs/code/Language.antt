-- The language's names as the code has them: each by itself, and their numbers. Assumes nothing.
use Rattle.std.specs.Prelude.{ℕ, true, cond, List, eqb}
use Rattle.places.specs.Kinds.{identifier_kind}
use Rattle.places.specs.Places.{kind_column, cell_at}
use Rattle.words.specs.Words.{bytes_of}
use Rattle.same_names.specs.Alike.{spelled_as}
use Rattle.names.specs.Language.{language_names, language_number}

-- the six names, in bytes
abbrev pub integer_name : List ℕ
integer_name = bytes_of "integer"

abbrev pub natural_name : List ℕ
natural_name = bytes_of "natural"

abbrev pub positive_name : List ℕ
positive_name = bytes_of "positive"

abbrev pub boolean_name : List ℕ
boolean_name = bytes_of "boolean"

abbrev pub true_name : List ℕ
true_name = bytes_of "true"

abbrev pub false_name : List ℕ
false_name = bytes_of "false"

-- their numbers, in that order
abbrev pub name_integer : ℕ
name_integer = 1

abbrev pub name_natural : ℕ
name_natural = 2

abbrev pub name_positive : ℕ
name_positive = 3

abbrev pub name_boolean : ℕ
name_boolean = 4

abbrev pub name_true : ℕ
name_true = 5

abbrev pub name_false : ℕ
name_false = 6

-- its number for a language's name, a basic identifier, case aside; 0 for any other element
unfoldable pub language_of : List ℕ → List ℕ → ℕ → ℕ
language_of text table e = cond (eqb (cell_at table e kind_column) identifier_kind) (language_number (spelled_as true text table e) 1 language_names) 0
