-- The numbers of 01's table of forms ("Forms of the strict reading") that the definitions speak of, each under its name. Assumes nothing.
use Rattle.std.specs.Prelude.{ℕ}

abbrev pub constant : ℕ
constant = 4

abbrev pub subtype : ℕ
subtype = 5

abbrev pub name : ℕ
name = 24

abbrev pub called : ℕ
called = 25

abbrev pub attribute : ℕ
attribute = 26

abbrev pub literal : ℕ
literal = 27

abbrev pub unary : ℕ
unary = 28

abbrev pub binary : ℕ
binary = 29

abbrev pub mark : ℕ
mark = 31
