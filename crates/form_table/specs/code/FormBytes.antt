-- The table of the forms as the code has it, bytes in a row: lists of numbers that follow from the kinds, the table of rules and the
-- rules. Assumes nothing: these are definitions.
use Rattle.std.specs.Prelude.{ℕ, zero, suc, ◌+◌, List, [], ◌∷◌, ◌++◌, length}
use Rattle.grammars.specs.code.Grammar.{Sym, tok, nt, act}
use Rattle.forms.specs.code.Kinds.{symbols_by_kind, number_of, kind_count}
use Rattle.forms.specs.code.Rules.{rules}
use Rattle.forms.specs.code.Picks.{picks}
use Rattle.form_table.specs.code.Symbols.{first_action}

abbrev pub Rule : Type 0
Rule = ℕ × List Sym

-- the kinds' numbers
abbrev pub numbers : List Sym → List ℕ
numbers [] = []
numbers (s ∷ l) = number_of s ∷ numbers l

-- lines one after the other
abbrev pub flatten : List (List ℕ) → List ℕ
flatten [] = []
flatten (r ∷ rs) = r ++ flatten rs

-- the rules' sizes
abbrev pub rule_sizes : List Rule → List ℕ
rule_sizes [] = []
rule_sizes (r ∷ rs) = length r.1 ∷ rule_sizes rs

-- a symbol: a kind is its number, a name has the number of kinds added, an action that of kinds and names
abbrev pub encode : Sym → ℕ
encode (tok a) = a
encode (nt n) = kind_count + n
encode (act a) = first_action + a

-- symbols and zeros, n in all
abbrev pub padded : ℕ → List Sym → List ℕ
padded zero l = []
padded (suc n) [] = 0 ∷ padded n []
padded (suc n) (s ∷ l) = encode s ∷ padded n l

-- how many symbols a line has room for, and a line to each rule
abbrev pub line_symbols : ℕ
line_symbols = 16

abbrev pub lined : List Rule → List (List ℕ)
lined [] = []
lined (r ∷ rs) = padded line_symbols r.1 ∷ lined rs

-- the table's four parts, and the table
abbrev pub kind_bytes : List ℕ
kind_bytes = numbers symbols_by_kind

abbrev pub pick_bytes : List ℕ
pick_bytes = flatten picks

abbrev pub size_bytes : List ℕ
size_bytes = rule_sizes rules

abbrev pub body_bytes : List ℕ
body_bytes = flatten (lined rules)

unfoldable pub form_bytes : List ℕ
form_bytes = kind_bytes ++ (pick_bytes ++ (size_bytes ++ body_bytes))
