-- The operator element of a row (01, "Forms of the strict reading"). Assumes nothing: these are definitions, and proofs/OwnOperators.antt has
-- the proof.
use Rattle.std.specs.Prelude.{ℕ, suc, ◌≡◌, true, cond, List, [], ◌∷◌, eqb, get_or}
use Prim.Native.String.{String}
use Rattle.form_numbers.specs.Forms as form
use Rattle.forms.specs.Tree.{Row}
use Rattle.forms.specs.Spellings.{spelled_among}
use Rattle.forms.specs.FormLines.{OwnItem, at, row, own_items, IsAmong}

-- form 28: sign, abs or not
abbrev pub unary_operators : List String
unary_operators = "+" ∷ "-" ∷ "abs" ∷ "not" ∷ []

-- form 29: binary operator
abbrev pub binary_operators : List String
binary_operators =
    "and" ∷ "or" ∷ "xor" ∷ "xnor" ∷ "nand" ∷ "nor"
    ∷ "=" ∷ "/=" ∷ "<" ∷ "<=" ∷ ">" ∷ ">="
    ∷ "+" ∷ "-" ∷ "&" ∷ "*" ∷ "/" ∷ "mod" ∷ "rem" ∷ "**" ∷ []

-- how many of the items are children
abbrev pub children_in : List OwnItem → ℕ
children_in [] = 0
children_in (at i ∷ x) = children_in x
children_in (row s ∷ x) = suc (children_in x)

-- The operator column of a row of form 28 or 29, l being the rows after it: one of the row's own leaves, spanned by no child, and of one of
-- these kinds; and the row has so many children, which are what the operator works on.
abbrev pub HasOperator : List ℕ → List String → ℕ → Row → List Row → Type 0
HasOperator w kinds operands r l =
    IsAmong (at r.operator) (own_items w r l) × (spelled_among (get_or w r.operator 0) kinds ≡ true) × (children_in (own_items w r l) ≡ operands)

-- the operands of a binary operator: left and right
abbrev pub both_sides : ℕ
both_sides = 2

-- "operator element (forms 28 and 29; else the first element)": in form 28 a sign, abs or not before one operand, in form 29 a binary
-- operator between two
abbrev pub OperatorRight : List ℕ → Row → List Row → Type 0
OperatorRight w r l =
    cond (eqb r.form form.unary) (HasOperator w unary_operators 1 r l)
    (cond (eqb r.form form.binary) (HasOperator w binary_operators both_sides r l)
    (r.operator ≡ r.first))

-- of every row, with the rows after it
abbrev pub OperatorsRight : List ℕ → List Row → Type 0
OperatorsRight w [] = Unit {0}
OperatorsRight w (r ∷ l) = OperatorRight w r l × OperatorsRight w l
