-- A symbol as the code has it: a kind is its number, a name has the number of kinds added, an action that of kinds and names. Assumes
-- nothing: these are definitions.
use Rattle.std.specs.Prelude.{ℕ, ◌+◌, ◌-◌, List, [], ◌∷◌, cond, ltb}
use Rattle.grammars.specs.code.Grammar.{Sym, tok, nt, act}
use Rattle.forms.specs.code.Kinds.{kind_count}
use Rattle.forms.specs.code.RuleNames.{name_count}

abbrev pub first_action : ℕ
first_action = kind_count + name_count

abbrev pub sym_of : ℕ → Sym
sym_of x = cond (ltb x kind_count) (tok x) (cond (ltb x first_action) (nt (x - kind_count)) (act (x - first_action)))

abbrev pub syms : List ℕ → List Sym
syms [] = []
syms (x ∷ xs) = sym_of x ∷ syms xs
