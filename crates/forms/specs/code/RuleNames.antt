-- What the rules name, each under its own name, and the actions that stand in rules. Assumes nothing: these are definitions.
use Rattle.std.specs.Prelude.{ℕ, ◌+◌, List, [], ◌∷◌, length}
use Rattle.grammars.specs.code.Grammar.{Sym, tok, nt, act}

abbrev pub file : Sym
file = nt 0

abbrev pub units : Sym
units = nt 1

abbrev pub unit : Sym
unit = nt 2

abbrev pub package_unit : Sym
package_unit = nt 3

abbrev pub package_declarations : Sym
package_declarations = nt 4

abbrev pub package_word : Sym
package_word = nt 5

abbrev pub closing : Sym
closing = nt 6

abbrev pub entity_unit : Sym
entity_unit = nt 7

abbrev pub ports : Sym
ports = nt 8

abbrev pub more_ports : Sym
more_ports = nt 9

abbrev pub entity_word : Sym
entity_word = nt 10

abbrev pub architecture_unit : Sym
architecture_unit = nt 11

abbrev pub declarations : Sym
declarations = nt 12

abbrev pub architecture_word : Sym
architecture_word = nt 13

abbrev pub constant : Sym
constant = nt 14

abbrev pub subtype : Sym
subtype = nt 15

abbrev pub subtype_range : Sym
subtype_range = nt 16

abbrev pub signal : Sym
signal = nt 17

abbrev pub variable : Sym
variable = nt 18

abbrev pub bounds : Sym
bounds = nt 19

abbrev pub port : Sym
port = nt 20

abbrev pub mode : Sym
mode = nt 21

abbrev pub alias : Sym
alias = nt 22

abbrev pub range : Sym
range = nt 23

abbrev pub direction : Sym
direction = nt 24

abbrev pub concurrents : Sym
concurrents = nt 25

abbrev pub concurrent : Sym
concurrent = nt 26

abbrev pub after_name : Sym
after_name = nt 27

abbrev pub labelled_concurrent : Sym
labelled_concurrent = nt 28

abbrev pub block : Sym
block = nt 29

abbrev pub process : Sym
process = nt 30

abbrev pub sensitivity : Sym
sensitivity = nt 31

abbrev pub sensitive : Sym
sensitive = nt 32

abbrev pub more_sensitive : Sym
more_sensitive = nt 33

abbrev pub process_is : Sym
process_is = nt 34

abbrev pub process_declarations : Sym
process_declarations = nt 35

abbrev pub sequentials : Sym
sequentials = nt 36

abbrev pub sequential : Sym
sequential = nt 37

abbrev pub after_first : Sym
after_first = nt 38

abbrev pub assignment : Sym
assignment = nt 39

abbrev pub if : Sym
if = nt 40

abbrev pub branches : Sym
branches = nt 41

abbrev pub labelled : Sym
labelled = nt 42

abbrev pub loop : Sym
loop = nt 43

abbrev pub next : Sym
next = nt 44

abbrev pub exit : Sym
exit = nt 45

abbrev pub null : Sym
null = nt 46

abbrev pub loop_name : Sym
loop_name = nt 47

abbrev pub condition : Sym
condition = nt 48

abbrev pub name : Sym
name = nt 49

abbrev pub name_rest : Sym
name_rest = nt 50

abbrev pub attribute : Sym
attribute = nt 51

abbrev pub target : Sym
target = nt 52

abbrev pub target_rest : Sym
target_rest = nt 53

abbrev pub target_tick : Sym
target_tick = nt 54

abbrev pub expression : Sym
expression = nt 55

abbrev pub logic : Sym
logic = nt 56

abbrev pub and_chain : Sym
and_chain = nt 57

abbrev pub or_chain : Sym
or_chain = nt 58

abbrev pub xor_chain : Sym
xor_chain = nt 59

abbrev pub xnor_chain : Sym
xnor_chain = nt 60

abbrev pub relation : Sym
relation = nt 61

abbrev pub compared : Sym
compared = nt 62

abbrev pub relational : Sym
relational = nt 63

abbrev pub simple : Sym
simple = nt 64

abbrev pub first_term : Sym
first_term = nt 65

abbrev pub sign : Sym
sign = nt 66

abbrev pub added : Sym
added = nt 67

abbrev pub adding : Sym
adding = nt 68

abbrev pub term : Sym
term = nt 69

abbrev pub multiplied : Sym
multiplied = nt 70

abbrev pub multiplying : Sym
multiplying = nt 71

abbrev pub factor : Sym
factor = nt 72

abbrev pub raised : Sym
raised = nt 73

abbrev pub primary : Sym
primary = nt 74

abbrev pub literal : Sym
literal = nt 75

abbrev pub label : Sym
label = nt 76

abbrev pub mark : Sym
mark = nt 77

abbrev pub guard : Sym
guard = nt 78

abbrev pub block_is : Sym
block_is = nt 79

-- the names, each once, and how many there are
abbrev pub all_names : List Sym
all_names =
    file ∷ units ∷ unit ∷ package_unit ∷ package_declarations ∷ package_word ∷ closing ∷ entity_unit ∷ ports ∷ more_ports ∷ entity_word ∷
    architecture_unit ∷ declarations ∷ architecture_word ∷ constant ∷ subtype ∷ subtype_range ∷ signal ∷ variable ∷ bounds ∷ port ∷ mode ∷
    alias ∷ range ∷ direction ∷ concurrents ∷ concurrent ∷ after_name ∷ labelled_concurrent ∷ block ∷ process ∷ sensitivity ∷ sensitive ∷
    more_sensitive ∷ process_is ∷ process_declarations ∷ sequentials ∷ sequential ∷ after_first ∷ assignment ∷ if ∷ branches ∷ labelled ∷
    loop ∷ next ∷ exit ∷ null ∷ loop_name ∷ condition ∷ name ∷ name_rest ∷ attribute ∷ target ∷ target_rest ∷ target_tick ∷ expression ∷
    logic ∷ and_chain ∷ or_chain ∷ xor_chain ∷ xnor_chain ∷ relation ∷ compared ∷ relational ∷ simple ∷ first_term ∷ sign ∷ added ∷
    adding ∷ term ∷ multiplied ∷ multiplying ∷ factor ∷ raised ∷ primary ∷ literal ∷ label ∷ mark ∷ guard ∷ block_is ∷ []

abbrev pub name_count : ℕ
name_count = length all_names

-- a name's number, 0 for what is no name; the numbers of names
abbrev pub name_number : Sym → ℕ
name_number (nt n) = n
name_number (tok a) = 0
name_number (act a) = 0

abbrev pub name_numbers : List Sym → List ℕ
name_numbers [] = []
name_numbers (s ∷ l) = name_number s ∷ name_numbers l

-- a frame begins: its first element is the next one, and all rows put from now on are its rows
abbrev pub opens : Sym
opens = act 0

-- the innermost frame ends; its rows become those of the frame around it
abbrev pub closes : Sym
closes = act 1

-- the element just read is the frame's operator
abbrev pub marks : Sym
marks = act 2

-- the element just read is the frame's name
abbrev pub names : Sym
names = act 3

-- refusal 6 at the element just read, unless the frame has a name and it is the same
abbrev pub same : Sym
same = act 4

-- the element just read opens one more: refusal 7 at it, if that makes 33
abbrev pub deeper : Sym
deeper = act 5

-- the element just read closes one
abbrev pub shallower : Sym
shallower = act 6

-- the number of the first action that puts a row, which is that of form 0
abbrev pub first_row : ℕ
first_row = 7

-- a row of form f is put in front of the frame's rows: from its first element to the one just read, over all of them
abbrev pub row : ℕ → Sym
row f = act (first_row + f)
