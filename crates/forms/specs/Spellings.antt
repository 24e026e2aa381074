-- What elements are to the forms, by number: 1 an identifier, basic or extended; 2 to 5 an integer, real, character or string literal; then what is
-- spelled as one of the forms' words and delimiters, in the order below; then any other. Assumes nothing: these are definitions.
use Rattle.std.specs.Prelude.{ℕ, suc, Bool, true, false, cond, ◌&&◌, ◌||◌, List, [], ◌∷◌, eqb}
use Prim.Native.Char.{code}
use Prim.Native.String.{String, [] as empty, ◌∷◌ as ◌then◌}

abbrev pub identifier : ℕ
identifier = 1

abbrev pub integer : ℕ
integer = 2

abbrev pub real : ℕ
real = 3

abbrev pub character : ℕ
character = 4

abbrev pub string : ℕ
string = 5

abbrev pub literals : List ℕ
literals = integer ∷ real ∷ character ∷ string ∷ []

-- the words and the delimiters of 01's table of forms
abbrev pub spellings : List String
spellings =
    "abs" ∷ "alias" ∷ "and" ∷ "architecture" ∷ "begin" ∷ "block" ∷ "constant" ∷ "downto" ∷ "else" ∷ "elsif" ∷ "end" ∷ "entity" ∷ "exit" ∷ "for" ∷
    "if" ∷ "in" ∷ "inout" ∷ "is" ∷ "loop" ∷ "mod" ∷ "nand" ∷ "next" ∷ "nor" ∷ "not" ∷ "null" ∷ "of" ∷ "or" ∷ "out" ∷ "package" ∷ "port" ∷ "process" ∷
    "range" ∷ "rem" ∷ "signal" ∷ "subtype" ∷ "then" ∷ "to" ∷ "variable" ∷ "when" ∷ "while" ∷ "xnor" ∷ "xor" ∷ "**" ∷ ":=" ∷ "/=" ∷ ">=" ∷ "<=" ∷
    "&" ∷ "'" ∷ "(" ∷ ")" ∷ "*" ∷ "+" ∷ "," ∷ "-" ∷ "/" ∷ ":" ∷ ";" ∷ "<" ∷ "=" ∷ ">" ∷ []

-- two spellings are the same
abbrev pub same_spelling : String → String → Bool
same_spelling empty empty = true
same_spelling empty (◌then◌ d t) = false
same_spelling (◌then◌ c s) empty = false
same_spelling (◌then◌ c s) (◌then◌ d t) = eqb (code c) (code d) && same_spelling s t

-- the place of a spelling among these, the first being number n
abbrev pub place_of : ℕ → String → List String → ℕ
place_of n s [] = n
place_of n s (t ∷ l) = cond (same_spelling s t) n (place_of (suc n) s l)

-- the number of what is spelled so: the first of these comes after the literals
abbrev pub spelled : String → ℕ
spelled s = place_of (suc string) s spellings

abbrev pub spelled_each : List String → List ℕ
spelled_each [] = []
spelled_each (s ∷ l) = spelled s ∷ spelled_each l

-- t is one of these
abbrev pub is_in : ℕ → List ℕ → Bool
is_in t [] = false
is_in t (x ∷ l) = eqb t x || is_in t l

-- what is spelled as one of these
abbrev pub spelled_among : ℕ → List String → Bool
spelled_among t l = is_in t (spelled_each l)
