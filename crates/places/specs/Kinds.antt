-- The numbers of kinds in the element table, by which names, integers and what is unreadable are told: an identifier, an extended one, an
-- integer literal, an unreadable element. That the elements are read to these numbers is computed in `spellings`. Assumes nothing.
use Rattle.std.specs.Prelude.{ℕ, Bool, ◌||◌, eqb}

abbrev pub identifier_kind : ℕ
identifier_kind = 1

abbrev pub extended_kind : ℕ
extended_kind = 2

abbrev pub integer_literal_kind : ℕ
integer_literal_kind = 3

abbrev pub unreadable_kind : ℕ
unreadable_kind = 7

-- an identifier or an extended one
abbrev pub is_name : ℕ → Bool
is_name k = eqb k identifier_kind || eqb k extended_kind
