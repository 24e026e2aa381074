-- The reserved words and the delimiters, and which of a list a stretch of bytes spells. Assumes nothing.
use Rattle.std.specs.Prelude.{ℕ, suc, Bool, true, false, ◌&&◌, List, [] as []ᴸ, ◌∷◌ as ◌∷ᴸ◌, eqb, length, Option, Some, None}
use Prim.Native.Char.{code}
use Prim.Native.String.{String, [], ◌∷◌}
use Rattle.classes.specs.Bytes.{lower}

-- "Reserved words are those of 000": the 115 of its clause 15.10
unfoldable pub reserved_words : List String
reserved_words =
    "abs" ∷ᴸ "access" ∷ᴸ "after" ∷ᴸ "alias" ∷ᴸ "all" ∷ᴸ "and" ∷ᴸ "architecture" ∷ᴸ "array" ∷ᴸ
    "assert" ∷ᴸ "assume" ∷ᴸ "assume_guarantee" ∷ᴸ "attribute" ∷ᴸ "begin" ∷ᴸ "block" ∷ᴸ "body" ∷ᴸ "buffer" ∷ᴸ
    "bus" ∷ᴸ "case" ∷ᴸ "component" ∷ᴸ "configuration" ∷ᴸ "constant" ∷ᴸ "context" ∷ᴸ "cover" ∷ᴸ "default" ∷ᴸ
    "disconnect" ∷ᴸ "downto" ∷ᴸ "else" ∷ᴸ "elsif" ∷ᴸ "end" ∷ᴸ "entity" ∷ᴸ "exit" ∷ᴸ "fairness" ∷ᴸ
    "file" ∷ᴸ "for" ∷ᴸ "force" ∷ᴸ "function" ∷ᴸ "generate" ∷ᴸ "generic" ∷ᴸ "group" ∷ᴸ "guarded" ∷ᴸ
    "if" ∷ᴸ "impure" ∷ᴸ "in" ∷ᴸ "inertial" ∷ᴸ "inout" ∷ᴸ "is" ∷ᴸ "label" ∷ᴸ "library" ∷ᴸ
    "linkage" ∷ᴸ "literal" ∷ᴸ "loop" ∷ᴸ "map" ∷ᴸ "mod" ∷ᴸ "nand" ∷ᴸ "new" ∷ᴸ "next" ∷ᴸ
    "nor" ∷ᴸ "not" ∷ᴸ "null" ∷ᴸ "of" ∷ᴸ "on" ∷ᴸ "open" ∷ᴸ "or" ∷ᴸ "others" ∷ᴸ
    "out" ∷ᴸ "package" ∷ᴸ "parameter" ∷ᴸ "port" ∷ᴸ "postponed" ∷ᴸ "procedure" ∷ᴸ "process" ∷ᴸ "property" ∷ᴸ
    "protected" ∷ᴸ "pure" ∷ᴸ "range" ∷ᴸ "record" ∷ᴸ "register" ∷ᴸ "reject" ∷ᴸ "release" ∷ᴸ "rem" ∷ᴸ
    "report" ∷ᴸ "restrict" ∷ᴸ "restrict_guarantee" ∷ᴸ "return" ∷ᴸ "rol" ∷ᴸ "ror" ∷ᴸ "select" ∷ᴸ "sequence" ∷ᴸ
    "severity" ∷ᴸ "shared" ∷ᴸ "signal" ∷ᴸ "sla" ∷ᴸ "sll" ∷ᴸ "sra" ∷ᴸ "srl" ∷ᴸ "strong" ∷ᴸ
    "subtype" ∷ᴸ "then" ∷ᴸ "to" ∷ᴸ "transport" ∷ᴸ "type" ∷ᴸ "unaffected" ∷ᴸ "units" ∷ᴸ "until" ∷ᴸ
    "use" ∷ᴸ "variable" ∷ᴸ "vmode" ∷ᴸ "vprop" ∷ᴸ "vunit" ∷ᴸ "wait" ∷ᴸ "when" ∷ᴸ "while" ∷ᴸ
    "with" ∷ᴸ "xnor" ∷ᴸ "xor" ∷ᴸ []ᴸ

-- "Delimiters, longest first"
unfoldable pub delimiters : List String
delimiters =
    "=>" ∷ᴸ "**" ∷ᴸ ":=" ∷ᴸ "/=" ∷ᴸ ">=" ∷ᴸ "<=" ∷ᴸ "<>" ∷ᴸ "&" ∷ᴸ "'" ∷ᴸ
    "(" ∷ᴸ ")" ∷ᴸ "*" ∷ᴸ "+" ∷ᴸ "," ∷ᴸ "-" ∷ᴸ "." ∷ᴸ "/" ∷ᴸ ":" ∷ᴸ
    ";" ∷ᴸ "<" ∷ᴸ "=" ∷ᴸ ">" ∷ᴸ "|" ∷ᴸ "[" ∷ᴸ "]" ∷ᴸ []ᴸ

-- the bytes of a word
unfoldable pub bytes_of : String → List ℕ
bytes_of [] = []ᴸ
bytes_of (c ∷ s) = code c ∷ᴸ bytes_of s

-- "case is ignored": the second list begins with the first, taken in lower case
unfoldable pub begins : List ℕ → List ℕ → Bool
begins []ᴸ t = true
begins (b ∷ᴸ w) []ᴸ = false
begins (b ∷ᴸ w) (x ∷ᴸ t) = eqb (lower b) x && begins w t

-- the bytes spell the word
unfoldable pub spells : List ℕ → String → Bool
spells w x = eqb (length (bytes_of x)) (length w) && begins w (bytes_of x)

-- which word of a list the bytes spell, the list's first being number k
unfoldable pub place_from : ℕ → List ℕ → List String → Option ℕ
place_from k w []ᴸ = None
place_from k w (x ∷ᴸ xs) = elim (spells w x) [ true ↦ Some k | false ↦ place_from (suc k) w xs ]

abbrev pub place_in : List ℕ → List String → Option ℕ
place_in w xs = place_from 0 w xs
