-- What a tree is by 01's table alone (01, "Forms of the strict reading"): no rules, frames or actions. Assumes nothing: these are definitions.
use Rattle.std.specs.Prelude.{ℕ, ◌+◌, ◌-◌, ◌≤◌, ◌≡◌, cond, List, [], ◌∷◌, eqb, length}
use Rattle.form_numbers.specs.Forms as form
use Rattle.forms.specs.Spellings.{spelled}
use Rattle.forms.specs.Tree.{Row, most_open, EachRow, Forest}
use Rattle.forms.specs.FormLines.{operates, Pattern, rows, Fits, items_in, RowsFit}

-- "operator element (forms 28 and 29; else the first element)": which element it is in 28 and 29, their lines say
abbrev pub ElseFirst : Row → Type 0
ElseFirst r = cond (operates r.form) (Unit {0}) (r.operator ≡ r.first)

-- The rows l are trees of the elements w: "Rows stand parent first, children in text order", and each row's span and count of rows hold its
-- children and nothing else (`Forest`); the operator column is as 01 says; every row has on it what its form's line of the table reads
-- (`RowsFit`), and outermost stands what the pattern says.
abbrev pub Stands : Pattern → List ℕ → List Row → Type 0
Stands p w l = Forest 0 (length w) l × EachRow ElseFirst l × (Fits w 0 p (items_in w 0 0 (length w) l) × RowsFit w l)

-- a constant alone, of form 4, and a subtype, of form 5
abbrev pub IsConstant : List ℕ → List Row → Type 0
IsConstant = Stands (rows (form.constant ∷ []))

abbrev pub IsSubtype : List ℕ → List Row → Type 0
IsSubtype = Stands (rows (form.subtype ∷ []))

-- how many parentheses stand open after an element of kind t, d being open before it: "Each opens at .. `(` and closes at .. `)`"
abbrev pub parens_after : ℕ → ℕ → ℕ
parens_after t d = cond (eqb t (spelled "(")) (d + 1) (cond (eqb t (spelled ")")) (d - 1) d)

-- "So do more than 32 open parentheses": with d open before these elements, never more than 32 are. A constant and a subtype have nothing else
-- that stands open.
abbrev pub Shallow : ℕ → List ℕ → Type 0
Shallow d [] = d ≤ most_open
Shallow d (t ∷ w) = (d ≤ most_open) × Shallow (parens_after t d) w
