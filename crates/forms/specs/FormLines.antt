-- What stands on a row of each form: 01's table ("Forms of the strict reading") once more, a line to a form, said of the finished tree.
-- A row's own items are, in text order, its elements outside its children, and its children; its line is a pattern of them. Nothing here
-- speaks of rules, frames or actions. Assumes nothing: these are definitions, and proofs/Fitting.antt has the proof.
use Rattle.std.specs.Prelude.{ℕ, zero, suc, ◌+◌, ◌-◌, ◌*◌, ◌≤◌, ◌≡◌, ◌⊎◌, Bool, ◌||◌, cond, List, [], ◌∷◌, ◌++◌, T, eqb, get_or, length, take}
use Prim.Native.String.{String}
use Rattle.forms.specs.Spellings.{identifier, literals, spelled, spelled_each, is_in}
use Rattle.forms.specs.Tree.{Row}

-- an own item of a row: one of its elements, by number, or a child, by sort
pub data OwnItem : Type 0 where
  at : ℕ → OwnItem
  row : ℕ → OwnItem

-- forms 28 and 29 have an operator
abbrev pub operates : ℕ → Bool
operates f = eqb f 28 || eqb f 29

-- a branch is told by its first word: if, elsif or else
abbrev pub is_branch : ℕ → Bool
is_branch f = eqb f 17

-- a row's sort: its form, and one kind that tells it further, 0 where none does (every kind is below 128)
abbrev pub sort : ℕ → ℕ → ℕ
sort f k = f * 128 + k

-- a pattern of items; `one` is an item of class 0 (an element), 1 (the row's operator element) or 2 (a child), of one of the kinds or sorts
pub data Pattern : Type 0 where
  nothing : Pattern
  one : ℕ → List ℕ → Pattern
  operand : List ℕ → Pattern
  both : Pattern → Pattern → Pattern
  either : Pattern → Pattern → Pattern
  many : Pattern → Pattern

abbrev pub sorts : List ℕ → List ℕ
sorts [] = []
sorts (f ∷ l) = sort f 0 ∷ sorts l

abbrev pub with : ℕ → List String → List ℕ
with f [] = []
with f (s ∷ l) = sort f (spelled s) ∷ with f l

-- the words of the table: an element that is spelled so, N, one of these, the operator, a row of one of these forms, a branch that begins with this
-- word, a part or nothing
abbrev pub e : String → Pattern
e s = one 0 (spelled s ∷ [])

abbrev pub a_name : Pattern
a_name = one 0 (identifier ∷ [])

abbrev pub one_of : List String → Pattern
one_of l = one 0 (spelled_each l)

abbrev pub operator : List String → Pattern
operator l = one 1 (spelled_each l)

abbrev pub rows : List ℕ → Pattern
rows l = one 2 (sorts l)

abbrev pub branch : String → Pattern
branch s = one 2 (with 17 (s ∷ []))

abbrev pub opt : Pattern → Pattern
opt p = either p nothing

abbrev pub seq : List Pattern → Pattern
seq [] = nothing
seq (p ∷ l) = both p (seq l)

abbrev pub any : List Pattern → Pattern
any [] = nothing
any (p ∷ []) = p
any (p ∷ r ∷ l) = either p (any (r ∷ l))

-- Operators bind by 000: what may stand, without parentheses, where a primary, a factor, .. , an expression may
abbrev pub primaries : List ℕ
primaries = sorts (24 ∷ 25 ∷ 26 ∷ 27 ∷ [])

abbrev pub factors : List ℕ
factors = with 29 ("**" ∷ []) ++ with 28 ("abs" ∷ "not" ∷ []) ++ primaries

abbrev pub terms : List ℕ
terms = with 29 ("*" ∷ "/" ∷ "mod" ∷ "rem" ∷ []) ++ factors

abbrev pub simples : List ℕ
simples = with 29 ("+" ∷ "-" ∷ "&" ∷ []) ++ with 28 ("+" ∷ "-" ∷ []) ++ terms

abbrev pub relations : List ℕ
relations = with 29 ("=" ∷ "/=" ∷ "<" ∷ "<=" ∷ ">" ∷ ">=" ∷ []) ++ simples

abbrev pub expressions : List ℕ
expressions = with 29 ("and" ∷ "or" ∷ "xor" ∷ "xnor" ∷ "nand" ∷ "nor" ∷ []) ++ relations

abbrev pub an_expression : Pattern
an_expression = operand expressions

-- what several lines share
abbrev pub leading_label : Pattern
leading_label = opt (seq (rows (30 ∷ []) ∷ e ":" ∷ []))

abbrev pub closing : Pattern
closing = opt a_name

abbrev pub bounded : Pattern
bounded = opt (seq (e "(" ∷ rows (10 ∷ []) ∷ e ")" ∷ []))

abbrev pub declared : Pattern
declared = many (rows (4 ∷ 5 ∷ 6 ∷ 9 ∷ []))

abbrev pub concurrents : Pattern
concurrents = many (rows (11 ∷ 12 ∷ 13 ∷ []))

abbrev pub sequentials : Pattern
sequentials = many (rows (14 ∷ 15 ∷ 16 ∷ 18 ∷ 19 ∷ 20 ∷ 21 ∷ 22 ∷ 23 ∷ []))

abbrev pub target : Pattern
target = rows (24 ∷ 25 ∷ [])

-- port ( 8 separated by semicolons ); and ( names ), in the brackets of forms 2 and 13
abbrev pub port_list : Pattern
port_list = opt (seq (e "port" ∷ e "(" ∷ rows (8 ∷ []) ∷ many (seq (e ";" ∷ rows (8 ∷ []) ∷ [])) ∷ e ")" ∷ e ";" ∷ []))

abbrev pub name_list : Pattern
name_list = opt (seq (e "(" ∷ rows (24 ∷ []) ∷ many (seq (e "," ∷ rows (24 ∷ []) ∷ [])) ∷ e ")" ∷ []))

-- form 28: the operator, and what it stands before
abbrev pub unary : List String → List ℕ → Pattern
unary l b = seq (operator l ∷ operand b ∷ [])

abbrev pub unaries : List Pattern
unaries =
    unary ("abs" ∷ "not" ∷ []) primaries
    ∷ unary ("+" ∷ "-" ∷ []) terms
    ∷ []

-- form 29: what stands before the operator, the operator, and what stands after it; chains group to the left
abbrev pub binary : List ℕ → List String → List ℕ → Pattern
binary a l b = seq (operand a ∷ operator l ∷ operand b ∷ [])

abbrev pub binaries : List Pattern
binaries =
    binary primaries ("**" ∷ []) primaries
    ∷ binary terms ("*" ∷ "/" ∷ "mod" ∷ "rem" ∷ []) factors
    ∷ binary simples ("+" ∷ "-" ∷ "&" ∷ []) terms
    ∷ binary simples ("=" ∷ "/=" ∷ "<" ∷ "<=" ∷ ">" ∷ ">=" ∷ []) simples
    ∷ binary (with 29 ("and" ∷ []) ++ relations) ("and" ∷ []) relations
    ∷ binary (with 29 ("or" ∷ []) ++ relations) ("or" ∷ []) relations
    ∷ binary (with 29 ("xor" ∷ []) ++ relations) ("xor" ∷ []) relations
    ∷ binary (with 29 ("xnor" ∷ []) ++ relations) ("xnor" ∷ []) relations
    ∷ binary relations ("nand" ∷ "nor" ∷ []) relations
    ∷ []

-- THE TABLE, in 01's order
abbrev pub lines : List Pattern
lines =
    -- 0: a file is one or more units
    seq (rows (1 ∷ 2 ∷ 3 ∷ []) ∷ many (rows (1 ∷ 2 ∷ 3 ∷ [])) ∷ [])
    -- 1 package: package N is, declarations 4 and 5, end [package] [N];
    ∷ seq (e "package" ∷ a_name ∷ e "is" ∷ many (rows (4 ∷ 5 ∷ [])) ∷ e "end" ∷ opt (e "package") ∷ closing ∷ e ";" ∷ [])
    -- 2 entity: entity N is, [port ( 8 separated by semicolons );], end [entity] [N];
    ∷ seq (e "entity" ∷ a_name ∷ e "is" ∷ port_list ∷ e "end" ∷ opt (e "entity") ∷ closing ∷ e ";" ∷ [])
    -- 3 architecture: architecture N of E is, declarations 4, 5, 6, 9, begin, concurrent, end [architecture] [N];
    ∷ seq (e "architecture" ∷ a_name ∷ e "of" ∷ a_name ∷ e "is" ∷ declared ∷ e "begin" ∷ concurrents ∷ e "end" ∷ opt (e "architecture") ∷ closing ∷ e ";" ∷ [])
    -- 4 constant: constant N : mark := expression;
    ∷ seq (e "constant" ∷ a_name ∷ e ":" ∷ rows (31 ∷ []) ∷ e ":=" ∷ an_expression ∷ e ";" ∷ [])
    -- 5 subtype: subtype N is mark [range 10];
    ∷ seq (e "subtype" ∷ a_name ∷ e "is" ∷ rows (31 ∷ []) ∷ opt (seq (e "range" ∷ rows (10 ∷ []) ∷ [])) ∷ e ";" ∷ [])
    -- 6 signal, 7 variable: signal or variable, N : mark [( 10 )];
    ∷ seq (e "signal" ∷ a_name ∷ e ":" ∷ rows (31 ∷ []) ∷ bounded ∷ e ";" ∷ [])
    ∷ seq (e "variable" ∷ a_name ∷ e ":" ∷ rows (31 ∷ []) ∷ bounded ∷ e ";" ∷ [])
    -- 8 port: N : [in, out or inout] mark [( 10 )]
    ∷ seq (a_name ∷ e ":" ∷ opt (one_of ("in" ∷ "out" ∷ "inout" ∷ [])) ∷ rows (31 ∷ []) ∷ bounded ∷ [])
    -- 9 alias: alias N is N;
    ∷ seq (e "alias" ∷ a_name ∷ e "is" ∷ a_name ∷ e ";" ∷ [])
    -- 10 range: simple expression, to or downto, simple expression
    ∷ seq (operand simples ∷ one_of ("to" ∷ "downto" ∷ []) ∷ operand simples ∷ [])
    -- 11 concurrent assignment: target <= expression;
    ∷ seq (target ∷ e "<=" ∷ an_expression ∷ e ";" ∷ [])
    -- 12 block: label : block [guard 32] [is, form 33], declarations as in 3, begin, concurrent, end block [label];
    ∷ seq (rows (30 ∷ []) ∷ e ":" ∷ e "block" ∷ opt (rows (32 ∷ [])) ∷ opt (rows (33 ∷ [])) ∷ declared ∷ e "begin" ∷ concurrents ∷ e "end" ∷ e "block" ∷ closing ∷ e ";" ∷ [])
    -- 13 process: [label :] process [( names )] [is], declarations 4 and 7, begin, sequential, end process [label];
    ∷ seq (leading_label ∷ e "process" ∷ name_list ∷ opt (e "is") ∷ many (rows (4 ∷ 7 ∷ [])) ∷ e "begin" ∷ sequentials ∷ e "end" ∷ e "process" ∷ closing ∷ e ";" ∷ [])
    -- 14, 15 assignment: target, <= or :=, expression;
    ∷ seq (target ∷ e "<=" ∷ an_expression ∷ e ";" ∷ [])
    ∷ seq (target ∷ e ":=" ∷ an_expression ∷ e ";" ∷ [])
    -- 16 if: branches 17 (if, any elsif, perhaps else), end if;
    ∷ seq (branch "if" ∷ many (branch "elsif") ∷ opt (branch "else") ∷ e "end" ∷ e "if" ∷ e ";" ∷ [])
    -- 17: if or elsif, expression, then, sequential; else, sequential
    ∷ any (seq (one_of ("if" ∷ "elsif" ∷ []) ∷ an_expression ∷ e "then" ∷ sequentials ∷ []) ∷ seq (e "else" ∷ sequentials ∷ []) ∷ [])
    -- 18, 19, 20 loop: [label :] for N in 10, while expression, or nothing; loop, sequential, end loop [label];
    ∷ seq (leading_label ∷ e "for" ∷ a_name ∷ e "in" ∷ rows (10 ∷ []) ∷ e "loop" ∷ sequentials ∷ e "end" ∷ e "loop" ∷ closing ∷ e ";" ∷ [])
    ∷ seq (leading_label ∷ e "while" ∷ an_expression ∷ e "loop" ∷ sequentials ∷ e "end" ∷ e "loop" ∷ closing ∷ e ";" ∷ [])
    ∷ seq (leading_label ∷ e "loop" ∷ sequentials ∷ e "end" ∷ e "loop" ∷ closing ∷ e ";" ∷ [])
    -- 21, 22: [label :] next or exit [loop name] [when expression];   23 null: [label :] null;
    ∷ seq (leading_label ∷ e "next" ∷ opt (a_name) ∷ opt (seq (e "when" ∷ an_expression ∷ [])) ∷ e ";" ∷ [])
    ∷ seq (leading_label ∷ e "exit" ∷ opt (a_name) ∷ opt (seq (e "when" ∷ an_expression ∷ [])) ∷ e ";" ∷ [])
    ∷ seq (leading_label ∷ e "null" ∷ e ";" ∷ [])
    -- 24, 25, 26 name: identifier; name ( expression ); name, tick, identifier or range
    ∷ a_name
    ∷ seq (rows (24 ∷ 25 ∷ 26 ∷ []) ∷ e "(" ∷ an_expression ∷ e ")" ∷ [])
    ∷ seq (rows (24 ∷ 25 ∷ 26 ∷ []) ∷ e "'" ∷ one 0 (identifier ∷ spelled "range" ∷ []) ∷ [])
    -- 27, 28, 29: literal; sign, abs or not; binary operator
    ∷ one 0 literals
    ∷ any unaries
    ∷ any binaries
    -- 30, 31: leading label without its colon; type mark
    ∷ a_name
    ∷ a_name
    -- 32, 33: ( expression ); the word is of a block
    ∷ seq (e "(" ∷ an_expression ∷ e ")" ∷ [])
    ∷ e "is"
    ∷ []

-- a form without a line has no row: this pattern fits nothing
abbrev pub form_line : ℕ → Pattern
form_line f = get_or lines f (one 0 [])

-- an item of a class, q being the operator element's number and one more, or 0
abbrev pub IsOf : ℕ → ℕ → OwnItem → Type 0
IsOf q zero (at i) = Unit {0}
IsOf q (suc zero) (at i) = suc i ≡ q
IsOf q (suc (suc t)) (at i) = ⊥
IsOf q zero (row s) = ⊥
IsOf q (suc zero) (row s) = ⊥
IsOf q (suc (suc t)) (row s) = Unit {0}

abbrev pub code_of : List ℕ → OwnItem → ℕ
code_of w (at i) = get_or w i 0
code_of w (row s) = s

-- The items are of the pattern, w being the kinds of the elements. An operand is a row of one of the sorts, or any expression in parentheses.
pub data Fits (w : List ℕ) (q : ℕ) : Pattern → List OwnItem → Type 0 where
  none : Fits w q nothing []
  this : {t : ℕ} {K : List ℕ} {x : OwnItem} → IsOf q t x → T (is_in (code_of w x) K) → Fits w q (one t K) (x ∷ [])
  bare : {S : List ℕ} {s : ℕ} → T (is_in s S) → Fits w q (operand S) (row s ∷ [])
  inside : {S : List ℕ} {x z : List OwnItem} (i j : ℕ) → get_or w i 0 ≡ spelled "(" → Fits w q (operand expressions) x → get_or w j 0 ≡ spelled ")"
      → z ≡ at i ∷ (x ++ (at j ∷ [])) → Fits w q (operand S) z
  then : {a b : Pattern} {x y z : List OwnItem} → Fits w q a x → Fits w q b y → z ≡ x ++ y → Fits w q (both a b) z
  left : {a b : Pattern} {x : List OwnItem} → Fits w q a x → Fits w q (either a b) x
  right : {a b : Pattern} {x : List OwnItem} → Fits w q b x → Fits w q (either a b) x
  no_more : {a : Pattern} → Fits w q (many a) []
  more : {a : Pattern} {x y z : List OwnItem} → Fits w q a x → Fits w q (many a) y → z ≡ x ++ y → Fits w q (many a) z

-- c elements from lo on
abbrev pub elements : ℕ → ℕ → List OwnItem
elements lo zero = []
elements lo (suc c) = at lo ∷ elements (suc lo) c

-- what tells a row further: in forms 28 and 29 its operator's kind, in form 17 its first element's
abbrev pub telling : List ℕ → Row → ℕ
telling w r = cond (operates r.form) (get_or w r.operator 0) (cond (is_branch r.form) (get_or w r.first 0) 0)

abbrev pub sort_of : List ℕ → Row → ℕ
sort_of w r = sort r.form (telling w r)

-- The items from element lo up to hi over rows that stand parent first: the elements outside the outermost of these rows, and those rows.
-- `skip` is how many rows still belong to the tree before.
abbrev pub items_in : List ℕ → (skip lo hi : ℕ) → List Row → List OwnItem
items_in w skip lo hi [] = elements lo (hi - lo)
items_in w zero lo hi (r ∷ l) = elements lo (r.first - lo) ++ (row (sort_of w r) ∷ items_in w (r.rows - 1) (r.first + r.count) hi l)
items_in w (suc skip) lo hi (r ∷ l) = items_in w skip lo hi l

-- the own items of a row before the rows l: its children are the first of these
abbrev pub own_items : List ℕ → Row → List Row → List OwnItem
own_items w r l = items_in w 0 r.first (r.first + r.count) (take (r.rows - 1) l)

-- x is one of the items
abbrev pub IsAmong : OwnItem → List OwnItem → Type 0
IsAmong x [] = ⊥
IsAmong x (y ∷ l) = (x ≡ y) ⊎ IsAmong x l

-- the operator element's number and one more in forms 28 and 29, else 0
abbrev pub operator_at : Row → ℕ
operator_at r = cond (operates r.form) (suc r.operator) 0

-- every row has its subtree after it, and its own items fit its form's line
abbrev pub RowsFit : List ℕ → List Row → Type 0
RowsFit w [] = Unit {0}
RowsFit w (r ∷ l) = (r.rows ≤ suc (length l)) × (Fits w (operator_at r) (form_line r.form) (own_items w r l)) × RowsFit w l
