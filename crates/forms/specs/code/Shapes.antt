-- The words of the table of lines once more, by the symbols that the rules have for elements, for the proofs that join the two: each computes to the
-- same pattern. Assumes nothing: these are definitions.
use Rattle.std.specs.Prelude.{ℕ, List, [], ◌∷◌}
use Rattle.grammars.specs.code.Grammar.{Sym}
use Rattle.forms.specs.code.Kinds.{number_of}
use Rattle.forms.specs.FormLines.{Pattern, one, sort}

abbrev pub symbol_kinds : List Sym → List ℕ
symbol_kinds [] = []
symbol_kinds (s ∷ l) = number_of s ∷ symbol_kinds l

abbrev pub with_symbols : ℕ → List Sym → List ℕ
with_symbols f [] = []
with_symbols f (s ∷ l) = sort f (number_of s) ∷ with_symbols f l

abbrev pub symbol : Sym → Pattern
symbol k = one 0 (number_of k ∷ [])

abbrev pub one_of_symbols : List Sym → Pattern
one_of_symbols l = one 0 (symbol_kinds l)

abbrev pub branch_of_symbol : Sym → Pattern
branch_of_symbol k = one 2 (with_symbols 17 (k ∷ []))
