-- What an item is by the forms: the tree that its elements have by 01's table ("Forms of the strict reading", 4, 5, 10 and 24 to 29), and no
-- rules or machine. Assumes nothing: these are definitions.
use Rattle.std.specs.Prelude.{ℕ, ◌≡◌, Bool, true, false, List, [], ◌∷◌, get_or}
use Rattle.form_numbers.specs.Forms as form
use Rattle.forms.specs.Spellings.{spelled}
use Rattle.forms.specs.FormLines as line
use Rattle.forms.specs.Tree.{Row, behind}
use Rattle.one_tree.specs.FormElements.{form_kind}
use Rattle.one_tree.specs.Trees.{IsConstant, IsSubtype, Shallow}
use Rattle.folding.specs.declared.Operator.{Operator}
use Rattle.folding.specs.declared.Sign.{Sign}
use Rattle.operands.specs.SpelledOperators.{operator_of, sign_of}
use Rattle.meaning.specs.Elements.{Element, Piece, at}

-- ---- expressions and items

-- 24 identifier and 27 literal, each its element; 25 and 26, which are not folded; 28 "sign, abs or not" and 29 "binary operator" over operands
pub data Expression : Type 0 where
  name : Element → Expression
  literal : Element → Expression
  unfolded : Expression
  unary : Sign → Expression → Expression
  binary : Operator → Expression → Expression → Expression

-- 4, "constant N : mark := expression;", and 5, "subtype N is mark [range 10];", each with its mark; 10, "simple expression, to or downto,
-- simple expression", whether it is downto between the two
pub data ItemForm : Type 0 where
  constant : Element → Expression → ItemForm
  subtype : Element → ItemForm
  ranged : Element → Expression → Bool → Expression → ItemForm

-- ---- by their rows: "Rows stand parent first, children in text order."

-- The rows, in a piece, begin with those of an expression: a left operand stands after its operator's row, a right one after the left one's subtree.
pub data Is (p : Piece) : List Row → Expression → Type 0 where
  is_name : {r : Row} {rs : List Row} → r.form ≡ form.name → Is p (r ∷ rs) (name (at p r.first))
  is_called : {r : Row} {rs : List Row} → r.form ≡ form.called → Is p (r ∷ rs) unfolded
  is_attribute : {r : Row} {rs : List Row} → r.form ≡ form.attribute → Is p (r ∷ rs) unfolded
  is_literal : {r : Row} {rs : List Row} → r.form ≡ form.literal → Is p (r ∷ rs) (literal (at p r.first))
  is_unary : {r : Row} {rs : List Row} {o : Sign} {x : Expression} → r.form ≡ form.unary → sign_of (at p r.operator).kind ≡ o → Is p rs x → Is p (r ∷ rs) (unary o x)
  is_binary : {r : Row} {rs : List Row} {o : Operator} {x y : Expression} → r.form ≡ form.binary → operator_of (at p r.operator).kind ≡ o → Is p rs x → Is p (behind rs) y
      → Is p (r ∷ rs) (binary o x y)

-- what the elements of a piece are to the forms
abbrev pub to_forms : Piece → List ℕ
to_forms [] = []
to_forms (x ∷ p) = form_kind x.kind ∷ to_forms p

-- These rows are its tree by 01's table, of a constant or of a subtype alone, and no more than 32 parentheses ever stand open.
abbrev pub Tree : (List ℕ → List Row → Type 0) → Piece → List Row → Type 0
Tree Of p rs = Of (to_forms p) rs × Shallow 0 (to_forms p)

-- which way a range goes: to or downto is one of its own elements, which are those outside its bounds
pub data Goes (w : List ℕ) (own : List line.OwnItem) : Bool → Type 0 where
  to : (i : ℕ) → line.IsAmong (line.at i) own → get_or w i 0 ≡ spelled "to" → Goes w own false
  downto : (i : ℕ) → line.IsAmong (line.at i) own → get_or w i 0 ≡ spelled "downto" → Goes w own true

-- "a constant or a subtype by the forms above": after its own row stands its mark's, then its expression's, or its range's and the bounds'
pub data HasForm (p : Piece) : ItemForm → Type 0 where
  is_constant : {item mark : Row} {rs : List Row} {x : Expression} → Tree IsConstant p (item ∷ mark ∷ rs) → Is p rs x → HasForm p (constant (at p mark.first) x)
  is_subtype : {item mark : Row} → Tree IsSubtype p (item ∷ mark ∷ []) → HasForm p (subtype (at p mark.first))
  is_ranged : {item mark range : Row} {rs : List Row} {x y : Expression} {down : Bool} → Tree IsSubtype p (item ∷ mark ∷ range ∷ rs)
      → Goes (to_forms p) (line.own_items (to_forms p) range rs) down → Is p rs x → Is p (behind rs) y → HasForm p (ranged (at p mark.first) x down y)
