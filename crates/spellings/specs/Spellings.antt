-- What each crate takes a spelling for, a table to each. Assumes nothing: these are definitions.
use Rattle.std.specs.Prelude.{ℕ, zero, suc, ◌≡◌, true, false, List, [], ◌∷◌, ◌++◌}
use Prim.Native.String.{String}
use Rattle.words.specs.Words.{bytes_of, spells, reserved_words, delimiters}
use Rattle.elements.specs.declared.Kind.{Kind}
use Rattle.elements.specs.declared.Literal.{Literal}
use Rattle.elements.specs.Kinds.{kind_number}
use Rattle.elements.specs.Element.{tick_number, close_parenthesis_number}
use Rattle.places.specs.Kinds as place
use Rattle.spelled.specs.Spelled.{kind_of}
use Rattle.grammars.specs.code.Grammar.{Sym}
use Rattle.forms.specs.code.Kinds as form
use Rattle.pieces.specs.Kinds as piece
use Rattle.integers.specs.declared.Arithmetic.TheVariants.{Add, Subtract, Multiply, Divide, Remainder, Modulo, Power}
use Rattle.folding.specs.declared.Relation.TheVariants.{Equal, Unequal, Less, LessEqual, Greater, GreaterEqual}
use Rattle.folding.specs.declared.Logic.TheVariants.{And, Or, Nand, Nor, Xor, Xnor}
use Rattle.folding.specs.declared.Operator.{Operator}
use Rattle.folding.specs.declared.Operator.TheVariants.{Arithmetic, Relation, Logic, Join}
use Rattle.folding.specs.declared.Sign.{Sign}
use Rattle.folding.specs.declared.Sign.TheVariants.{Plus, Minus, Absolute, Not}

-- what a table says of each spelling in it, by a meaning of kinds: `means (kind_of s)` is what stands beside s
abbrev pub given : {A : Type 0} → List (String × A) → List A
given [] = []
given (e ∷ es) = e.1 ∷ given es

abbrev pub meant : {A : Type 0} → (ℕ → A) → List (String × A) → List A
meant f [] = []
meant f (e ∷ es) = f (kind_of e.0) ∷ meant f es

abbrev pub Spelled : {A : Type 0} → (ℕ → A) → List (String × A) → Type 0
Spelled f table = meant f table ≡ given table

abbrev pub unchanged : ℕ → ℕ
unchanged k = k

-- what elements takes spellings for
abbrev pub element_kinds : List (String × ℕ)
element_kinds = ("'", kind_number (Kind.Delimiter tick_number)) ∷ (")", kind_number (Kind.Delimiter close_parenthesis_number)) ∷ []

-- what pieces takes spellings for
abbrev pub piece_kinds : List (String × ℕ)
piece_kinds =
    (";", piece.semicolon) ∷ ("constant", piece.word_constant) ∷ ("downto", piece.word_downto) ∷ ("end", piece.word_end) ∷
    ("is", piece.word_is) ∷ ("package", piece.word_package) ∷ ("subtype", piece.word_subtype) ∷ []

-- the operators and the signs
abbrev pub operators : List (String × Operator)
operators =
    ("**", Arithmetic Power) ∷ ("*", Arithmetic Multiply) ∷ ("/", Arithmetic Divide) ∷ ("mod", Arithmetic Modulo) ∷
    ("rem", Arithmetic Remainder) ∷ ("+", Arithmetic Add) ∷ ("-", Arithmetic Subtract) ∷ ("=", Relation Equal) ∷
    ("/=", Relation Unequal) ∷ ("<", Relation Less) ∷ ("<=", Relation LessEqual) ∷ (">", Relation Greater) ∷
    (">=", Relation GreaterEqual) ∷ ("and", Logic And) ∷ ("or", Logic Or) ∷ ("nand", Logic Nand) ∷ ("nor", Logic Nor) ∷
    ("xor", Logic Xor) ∷ ("xnor", Logic Xnor) ∷ ("&", Join) ∷ []

abbrev pub signs : List (String × Sign)
signs = ("-", Minus) ∷ ("abs", Absolute) ∷ ("not", Not) ∷ ("+", Plus) ∷ []

-- what the forms take spellings for, in the order of their kinds
abbrev pub spelled_symbols : List (String × Sym)
spelled_symbols =
    ("abs", form.word_abs) ∷ ("alias", form.word_alias) ∷ ("and", form.word_and) ∷ ("architecture", form.word_architecture) ∷
    ("begin", form.word_begin) ∷ ("block", form.word_block) ∷ ("constant", form.word_constant) ∷ ("downto", form.word_downto) ∷
    ("else", form.word_else) ∷ ("elsif", form.word_elsif) ∷ ("end", form.word_end) ∷ ("entity", form.word_entity) ∷
    ("exit", form.word_exit) ∷ ("for", form.word_for) ∷ ("if", form.word_if) ∷ ("in", form.word_in) ∷ ("inout", form.word_inout) ∷
    ("is", form.word_is) ∷ ("loop", form.word_loop) ∷ ("mod", form.word_mod) ∷ ("nand", form.word_nand) ∷ ("next", form.word_next) ∷
    ("nor", form.word_nor) ∷ ("not", form.word_not) ∷ ("null", form.word_null) ∷ ("of", form.word_of) ∷ ("or", form.word_or) ∷
    ("out", form.word_out) ∷ ("package", form.word_package) ∷ ("port", form.word_port) ∷ ("process", form.word_process) ∷
    ("range", form.word_range) ∷ ("rem", form.word_rem) ∷ ("signal", form.word_signal) ∷ ("subtype", form.word_subtype) ∷
    ("then", form.word_then) ∷ ("to", form.word_to) ∷ ("variable", form.word_variable) ∷ ("when", form.word_when) ∷
    ("while", form.word_while) ∷ ("xnor", form.word_xnor) ∷ ("xor", form.word_xor) ∷ ("**", form.double_star) ∷ (":=", form.becomes) ∷
    ("/=", form.not_equal) ∷ (">=", form.at_least) ∷ ("<=", form.at_most) ∷ ("&", form.ampersand) ∷ ("'", form.tick) ∷
    ("(", form.left_paren) ∷ (")", form.right_paren) ∷ ("*", form.star) ∷ ("+", form.plus) ∷ (",", form.comma) ∷ ("-", form.minus) ∷
    ("/", form.slash) ∷ (":", form.colon) ∷ (";", form.semicolon) ∷ ("<", form.less) ∷ ("=", form.equal) ∷ (">", form.greater) ∷ []

-- a spelling that is not in the table is any other
abbrev pub form_of : List (String × Sym) → String → Sym
form_of [] s = form.other
form_of (e ∷ es) s = elim (spells (bytes_of s) e.0) [ true ↦ e.1 | false ↦ form_of es s ]

abbrev pub forms_of : List String → List Sym
forms_of [] = []
forms_of (s ∷ ss) = form_of spelled_symbols s ∷ forms_of ss

-- the classes of elements that are not told by a spelling, as the forms take them
abbrev pub form_class : Kind → Sym
form_class Kind.Identifier = form.identifier
form_class Kind.Extended = form.identifier
form_class (Kind.Literal Literal.Integer) = form.integer
form_class (Kind.Literal Literal.Real) = form.real
form_class (Kind.Literal Literal.Character) = form.character
form_class (Kind.Literal Literal.String) = form.string
form_class Kind.Unreadable = form.other
form_class (Kind.Delimiter n) = form.other
form_class (Kind.Reserved n) = form.other

abbrev pub classes : List Kind
classes =
    Kind.Identifier ∷ Kind.Extended ∷ Kind.Literal Literal.Integer ∷ Kind.Literal Literal.Real ∷ Kind.Literal Literal.Character ∷
    Kind.Literal Literal.String ∷ Kind.Unreadable ∷ []

abbrev pub class_numbers : List Kind → List ℕ
class_numbers [] = []
class_numbers (k ∷ ks) = kind_number k ∷ class_numbers ks

-- what places takes the first of them for
abbrev pub place_kinds : List ℕ
place_kinds = place.identifier_kind ∷ place.extended_kind ∷ place.integer_literal_kind ∷ []

abbrev pub first_classes : List Kind
first_classes = Kind.Identifier ∷ Kind.Extended ∷ Kind.Literal Literal.Integer ∷ []

abbrev pub class_forms : List Kind → List Sym
class_forms [] = []
class_forms (k ∷ ks) = form_class k ∷ class_forms ks

-- by the number of a kind, what it is to the forms: no element has number 0; then the classes; then each delimiter and each reserved word
-- by its spelling
abbrev pub kinds_by_spelling : List Sym
kinds_by_spelling = form.other ∷ (class_forms classes ++ (forms_of delimiters ++ forms_of reserved_words))

-- n numbers from k on
abbrev pub from : ℕ → ℕ → List ℕ
from zero k = []
from (suc n) k = k ∷ from n (suc k)

abbrev pub each : (ℕ → Sym) → List ℕ → List Sym
each f [] = []
each f (k ∷ ks) = f k ∷ each f ks

-- the kinds of the forms, each once
abbrev pub tokens : List Sym
tokens = form.identifier ∷ form.integer ∷ form.real ∷ form.character ∷ form.string ∷ (given spelled_symbols ++ (form.other ∷ []))
