-- 01's "Numbers at the edges" as statements, from bytes to the words that a survey leaves: proofs/Edges.antt proves them. Assumes nothing: these
-- are definitions.
use Rattle.std.specs.Prelude.{ℕ, List, [], ◌∷◌, ◌++◌, replicate}
use Prim.Native.String.{String}
use Rattle.words.specs.Words.{bytes_of}
use Rattle.edges.specs.Left.{ItemLine, LeavesEach}

-- a constant of this mark and this initial value, and the last four words of its record
abbrev pub initial_of : String → List ℕ → ℕ → ℕ → ℕ → ℕ → ItemLine
initial_of mark value state kind low high =
    record { item = bytes_of "constant c : " ++ bytes_of mark ++ bytes_of " := " ++ value ++ bytes_of ";"; words = state ∷ kind ∷ low ∷ high ∷ [] }

abbrev pub initial : String → String → ℕ → ℕ → ℕ → ℕ → ItemLine
initial mark value state kind low high = initial_of mark (bytes_of value) state kind low high

-- "Proved, together: each is the initial value of an integer or boolean constant." A number below zero is the word of 64 bits in two's
-- complement: 18446744073709551615 is -1.
abbrev pub edges : List ItemLine
edges =
    initial "integer" "-5 mod 3" 0 1 18446744073709551614 0
    ∷ initial "integer" "(-5) mod 3" 0 1 1 0
    ∷ initial "integer" "5 mod (-3)" 0 1 18446744073709551615 0
    ∷ initial "integer" "(-5) rem 3" 0 1 18446744073709551614 0
    ∷ initial "integer" "-2 ** 2" 0 1 18446744073709551612 0
    ∷ initial "integer" "16#F#E1" 0 1 240 0
    ∷ initial "integer" "0 ** 0" 0 1 1 0
    ∷ initial "integer" "2147483647 + 1" 9 0 0 0
    ∷ initial "integer" "1 / 0" 7 0 0 0
    ∷ initial "integer" "2 ** (-1)" 8 0 0 0
    ∷ initial "boolean" "false and 1 / 0 = 1" 0 2 0 0
    ∷ initial "boolean" "true and true or false" 1 0 0 0
    ∷ initial "integer" "" 1 0 0 0
    ∷ []

abbrev pub EdgeTable : Type 0
EdgeTable = LeavesEach edges

-- 1 in so many parentheses, bytes 40 and 41
abbrev pub in_parentheses : ℕ → List ℕ
in_parentheses n = replicate n 40 ++ bytes_of "1" ++ replicate n 41

-- "`-2147483648` state 9, `-2147483647` folds; 32 and 33 parentheses"
abbrev pub limit_lines : List ItemLine
limit_lines =
    initial "integer" "-2147483648" 9 0 0 0
    ∷ initial "integer" "-2147483647" 0 1 18446744071562067969 0
    ∷ initial_of "integer" (in_parentheses 32) 0 1 1 0
    ∷ initial_of "integer" (in_parentheses 33) 1 0 0 0
    ∷ []

abbrev pub Limits : Type 0
Limits = LeavesEach limit_lines
