-- The kinds of elements and their numbers in a row. Assumes nothing.
use Rattle.std.specs.Prelude.{ℕ, ◌+◌}
use Rattle.elements.specs.declared.Kind.{Kind}
use Rattle.elements.specs.declared.Literal.{Literal}

-- "Each kind is one case, and a literal carries which literal it is: integer, real, character or string." A delimiter and a reserved word
-- carry their number in their list.
abbrev pub kind_number : Kind → ℕ
kind_number Kind.Identifier = 1
kind_number Kind.Extended = 2
kind_number (Kind.Literal Literal.Integer) = 3
kind_number (Kind.Literal Literal.Real) = 4
kind_number (Kind.Literal Literal.Character) = 5
kind_number (Kind.Literal Literal.String) = 6
kind_number Kind.Unreadable = 7
kind_number (Kind.Delimiter n) = 8 + n
kind_number (Kind.Reserved n) = 33 + n
