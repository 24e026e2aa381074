-- The package of 01's "Numbers at the edges" with a missing operand, and the records that a survey leaves of it: proofs/Incident.antt proves it.
-- Assumes nothing: these are definitions.
use Rattle.std.specs.Prelude.{ℕ, List, [], ◌∷◌, ◌++◌}
use Rattle.words.specs.Words.{bytes_of}
use Rattle.edges.specs.Left.{LeavesFirst}

-- its six lines
abbrev pub gas : List ℕ
gas =
    bytes_of "package gas is\n"
    ++ bytes_of "  constant ch4 : natural := 5800;\n"
    ++ bytes_of "  constant co2 : natural := ;\n"
    ++ bytes_of "  constant total : natural := ch4 + co2;\n"
    ++ bytes_of "  constant idle : natural := ch4 / 4;\n"
    ++ bytes_of "end package gas;\n"

-- the records of its six pieces: heading; ch4 is 5800; co2 is broken; total leans on it; idle is 1450; closing
abbrev pub Incident : Type 0
Incident =
    LeavesFirst 6 gas
    (1 ∷ 0 ∷ 3 ∷ 1 ∷ 0 ∷ 0 ∷ 0 ∷ 0
    ∷ 3 ∷ 3 ∷ 7 ∷ 4 ∷ 0 ∷ 1 ∷ 5800 ∷ 0
    ∷ 3 ∷ 10 ∷ 6 ∷ 11 ∷ 1 ∷ 0 ∷ 0 ∷ 0
    ∷ 3 ∷ 16 ∷ 9 ∷ 17 ∷ 5 ∷ 0 ∷ 0 ∷ 0
    ∷ 3 ∷ 25 ∷ 9 ∷ 26 ∷ 0 ∷ 1 ∷ 1450 ∷ 0
    ∷ 2 ∷ 34 ∷ 4 ∷ 36 ∷ 0 ∷ 0 ∷ 0 ∷ 0
    ∷ [])

-- A package with a subtype and two pieces that claim no name, one of which begins with constant; its closing has no name.
abbrev pub odd : List ℕ
odd = bytes_of "package p is subtype s is integer; constant := 1; x; end;"

-- "class 1 to 5: heading, closing, constant, subtype, unclaimed"; "integer begins at -2147483647"
abbrev pub Classes : Type 0
Classes =
    LeavesFirst 5 odd
    (1 ∷ 0 ∷ 3 ∷ 1 ∷ 0 ∷ 0 ∷ 0 ∷ 0
    ∷ 4 ∷ 3 ∷ 5 ∷ 4 ∷ 0 ∷ 1 ∷ 18446744071562067969 ∷ 2147483647
    ∷ 5 ∷ 8 ∷ 4 ∷ 0 ∷ 1 ∷ 0 ∷ 0 ∷ 0
    ∷ 5 ∷ 12 ∷ 2 ∷ 0 ∷ 1 ∷ 0 ∷ 0 ∷ 0
    ∷ 2 ∷ 14 ∷ 2 ∷ 0 ∷ 0 ∷ 0 ∷ 0 ∷ 0
    ∷ [])
