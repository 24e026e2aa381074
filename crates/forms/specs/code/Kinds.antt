-- The kinds of elements that the forms of the strict reading speak of, each under its own name, and which of them an element of the
-- element table is. Its kinds are numbers: 1 to 7 the classes of 01's section "Elements", 8 to 32 the delimiters, 33 to 147 the reserved
-- words, in 01's and in alphabetical order. Assumes nothing: these are definitions.
use Rattle.std.specs.Prelude.{ℕ, suc, List, [], ◌∷◌, get_or}
use Rattle.grammars.specs.code.Grammar.{Sym, tok, nt, act}

-- an identifier, basic or extended, and the four literals
abbrev pub identifier : Sym
identifier = tok 1

abbrev pub integer : Sym
integer = tok 2

abbrev pub real : Sym
real = tok 3

abbrev pub character : Sym
character = tok 4

abbrev pub string : Sym
string = tok 5

-- reserved words
abbrev pub word_abs : Sym
word_abs = tok 6

abbrev pub word_alias : Sym
word_alias = tok 7

abbrev pub word_and : Sym
word_and = tok 8

abbrev pub word_architecture : Sym
word_architecture = tok 9

abbrev pub word_begin : Sym
word_begin = tok 10

abbrev pub word_block : Sym
word_block = tok 11

abbrev pub word_constant : Sym
word_constant = tok 12

abbrev pub word_downto : Sym
word_downto = tok 13

abbrev pub word_else : Sym
word_else = tok 14

abbrev pub word_elsif : Sym
word_elsif = tok 15

abbrev pub word_end : Sym
word_end = tok 16

abbrev pub word_entity : Sym
word_entity = tok 17

abbrev pub word_exit : Sym
word_exit = tok 18

abbrev pub word_for : Sym
word_for = tok 19

abbrev pub word_if : Sym
word_if = tok 20

abbrev pub word_in : Sym
word_in = tok 21

abbrev pub word_inout : Sym
word_inout = tok 22

abbrev pub word_is : Sym
word_is = tok 23

abbrev pub word_loop : Sym
word_loop = tok 24

abbrev pub word_mod : Sym
word_mod = tok 25

abbrev pub word_nand : Sym
word_nand = tok 26

abbrev pub word_next : Sym
word_next = tok 27

abbrev pub word_nor : Sym
word_nor = tok 28

abbrev pub word_not : Sym
word_not = tok 29

abbrev pub word_null : Sym
word_null = tok 30

abbrev pub word_of : Sym
word_of = tok 31

abbrev pub word_or : Sym
word_or = tok 32

abbrev pub word_out : Sym
word_out = tok 33

abbrev pub word_package : Sym
word_package = tok 34

abbrev pub word_port : Sym
word_port = tok 35

abbrev pub word_process : Sym
word_process = tok 36

abbrev pub word_range : Sym
word_range = tok 37

abbrev pub word_rem : Sym
word_rem = tok 38

abbrev pub word_signal : Sym
word_signal = tok 39

abbrev pub word_subtype : Sym
word_subtype = tok 40

abbrev pub word_then : Sym
word_then = tok 41

abbrev pub word_to : Sym
word_to = tok 42

abbrev pub word_variable : Sym
word_variable = tok 43

abbrev pub word_when : Sym
word_when = tok 44

abbrev pub word_while : Sym
word_while = tok 45

abbrev pub word_xnor : Sym
word_xnor = tok 46

abbrev pub word_xor : Sym
word_xor = tok 47

-- delimiters
abbrev pub double_star : Sym
double_star = tok 48

abbrev pub becomes : Sym
becomes = tok 49

abbrev pub not_equal : Sym
not_equal = tok 50

abbrev pub at_least : Sym
at_least = tok 51

abbrev pub at_most : Sym
at_most = tok 52

abbrev pub ampersand : Sym
ampersand = tok 53

abbrev pub tick : Sym
tick = tok 54

abbrev pub left_paren : Sym
left_paren = tok 55

abbrev pub right_paren : Sym
right_paren = tok 56

abbrev pub star : Sym
star = tok 57

abbrev pub plus : Sym
plus = tok 58

abbrev pub comma : Sym
comma = tok 59

abbrev pub minus : Sym
minus = tok 60

abbrev pub slash : Sym
slash = tok 61

abbrev pub colon : Sym
colon = tok 62

abbrev pub semicolon : Sym
semicolon = tok 63

abbrev pub less : Sym
less = tok 64

abbrev pub equal : Sym
equal = tok 65

abbrev pub greater : Sym
greater = tok 66

-- any element that no form reads
abbrev pub other : Sym
other = tok 67

-- by the number of an element's kind, what it is to the forms
abbrev pub symbols_by_kind : List Sym
symbols_by_kind =
    other ∷ identifier ∷ identifier ∷ integer ∷ real ∷ character ∷ string ∷ other ∷
    other ∷ double_star ∷ becomes ∷ not_equal ∷ at_least ∷ at_most ∷ other ∷ ampersand ∷ tick ∷ left_paren ∷ right_paren ∷ star ∷
    plus ∷ comma ∷ minus ∷ other ∷ slash ∷ colon ∷ semicolon ∷ less ∷ equal ∷ greater ∷ other ∷ other ∷ other ∷
    word_abs ∷ other ∷ other ∷ word_alias ∷ other ∷ word_and ∷ word_architecture ∷ other ∷ other ∷ other ∷
    other ∷ other ∷ word_begin ∷ word_block ∷ other ∷ other ∷ other ∷ other ∷ other ∷ other ∷
    word_constant ∷ other ∷ other ∷ other ∷ other ∷ word_downto ∷ word_else ∷ word_elsif ∷ word_end ∷ word_entity ∷
    word_exit ∷ other ∷ other ∷ word_for ∷ other ∷ other ∷ other ∷ other ∷ other ∷ other ∷
    word_if ∷ other ∷ word_in ∷ other ∷ word_inout ∷ word_is ∷ other ∷ other ∷ other ∷ other ∷
    word_loop ∷ other ∷ word_mod ∷ word_nand ∷ other ∷ word_next ∷ word_nor ∷ word_not ∷ word_null ∷ word_of ∷
    other ∷ other ∷ word_or ∷ other ∷ word_out ∷ word_package ∷ other ∷ word_port ∷ other ∷ other ∷
    word_process ∷ other ∷ other ∷ other ∷ word_range ∷ other ∷ other ∷ other ∷ other ∷ word_rem ∷
    other ∷ other ∷ other ∷ other ∷ other ∷ other ∷ other ∷ other ∷ other ∷ other ∷
    word_signal ∷ other ∷ other ∷ other ∷ other ∷ other ∷ word_subtype ∷ word_then ∷ word_to ∷ other ∷
    other ∷ other ∷ other ∷ other ∷ other ∷ word_variable ∷ other ∷ other ∷ other ∷ other ∷
    word_when ∷ word_while ∷ other ∷ word_xnor ∷ word_xor ∷
    []

abbrev pub number_of : Sym → ℕ
number_of (tok a) = a
number_of (nt n) = 0
number_of (act a) = 0

-- how many kinds the forms tell apart, the end (0) and any other included: any other is the last
abbrev pub kind_count : ℕ
kind_count = suc (number_of other)

-- the kind of the forms that an element of kind k is
unfoldable pub terminal_of : ℕ → ℕ
terminal_of k = number_of (get_or symbols_by_kind k other)
