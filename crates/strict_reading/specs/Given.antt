-- When a text is read and when each of refusals 1 to 8 is given, in the words and the order of 01's table ("Refusals and their order"), said
-- of the text and the forms. `element_words` and `tree_words` are how many words the two lent tables have. Assumes nothing: these are
-- definitions.
use Rattle.std.specs.Prelude.{ℕ, zero, suc, ◌*◌, ◌/◌, ◌≤◌, ◌<◌, ◌≡◌, Bool, List, [], ◌∷◌, length}
use Rattle.elements.specs.Kinds.{kind_number}
use Rattle.elements.specs.declared.Kind.{Kind}
use Rattle.element_reading.specs.Rows.{ElementRow, rows_of}
use Rattle.element_reading.specs.Table.{cells}
use Rattle.element_reading.specs.Given.{Taken}
use Rattle.element_reading.specs.Given as elements
use Rattle.same_names.specs.Alike.{same_name}
use Rattle.forms.specs.Tree as forms
use Rattle.forms.specs.RowWords.{row_numbers}
use Rattle.one_tree.specs.FormElements.{form_kind}
use Rattle.tree_promises.specs.Due.{IsFileOf, NoFileFirst, NameFirst, DepthFirst}
use Rattle.verdict.specs.Verdict.{Judged}
use Rattle.verdict.specs.declared.Verdict.{Verdict}

-- element e of these is there and is unreadable
abbrev pub UnreadableIn : List ElementRow → ℕ → Type 0
UnreadableIn [] e = ⊥
UnreadableIn (r ∷ rs) zero = r.kind ≡ Kind.Unreadable
UnreadableIn (r ∷ rs) (suc e) = UnreadableIn rs e

-- 2, "an unreadable element, the first"
abbrev pub FirstUnreadable : List ElementRow → ℕ → Type 0
FirstUnreadable rs e = UnreadableIn rs e × ((j : ℕ) → j < e → UnreadableIn rs j → ⊥)

abbrev pub NoneUnreadable : List ElementRow → Type 0
NoneUnreadable rs = (e : ℕ) → UnreadableIn rs e → ⊥

-- the text's elements are taken and none is unreadable: none of 1, 3, 4, 2 refuses it
abbrev pub Readable : List ℕ → ℕ → Type 0
Readable text element_words = Taken text element_words × NoneUnreadable (rows_of text)

-- what these elements are to the forms
abbrev pub form_kinds : List ElementRow → List ℕ
form_kinds [] = []
form_kinds (r ∷ rs) = form_kind (kind_number r.kind) ∷ form_kinds rs

-- what the text's elements are to the forms, and whether two of them are the same name
abbrev pub Elements : List ℕ → List ℕ
Elements text = form_kinds (rows_of text)

abbrev pub same_name_in : List ℕ → ℕ → ℕ → Bool
same_name_in text = same_name text (cells (rows_of text))

-- the text is a file with the tree l, whose closing names agree and which never has more than 32 open
abbrev pub File : List ℕ → List forms.Row → Type 0
File text l = IsFileOf (same_name_in text) (Elements text) l

-- the text is read as the tree l: its elements are taken and readable, it is a file with that tree, and the tree table has room for its rows,
-- of which there are so many; v is the verdict on them
abbrev pub ReadAs : List ℕ → ℕ → ℕ → ℕ → Verdict → List forms.Row → Type 0
ReadAs text element_words tree_words rows v l =
    Readable text element_words
    × File text l
    × (length l ≡ rows)
    × (row_numbers * rows ≤ tree_words)
    × Judged text (cells (rows_of text)) l v

abbrev pub IsRead : List ℕ → ℕ → ℕ → ℕ → Verdict → Type 0
IsRead text element_words tree_words rows v = (l : List forms.Row) × ReadAs text element_words tree_words rows v l

-- 01's table of refusals, a line to each: its number, when it is given, and its place; 1, 3, 4 as the element reader gives them. Each is given
-- where those above it are not; of 5, 6, 7 the first element decides.
pub data Given (text : List ℕ) (element_words tree_words : ℕ) : ℕ → ℕ → Type 0 where
  of_elements : {number place : ℕ} → elements.Given text element_words number place → Given text element_words tree_words number place
  -- "an unreadable element, the first"
  unreadable : {e : ℕ} → Taken text element_words → FirstUnreadable (rows_of text) e → Given text element_words tree_words 2 e
  -- "elements up to here begin no file; or the text ends early"
  no_file : {e : ℕ} → Readable text element_words → NoFileFirst (same_name_in text) (Elements text) e → Given text element_words tree_words 5 e
  -- "closing name or label differs, or closes what had none"
  name_differs : {e : ℕ} → Readable text element_words → NameFirst (same_name_in text) (Elements text) e → Given text element_words tree_words 6 e
  -- "more than 32 open after this element"
  too_deep : {e : ℕ} → Readable text element_words → DepthFirst (same_name_in text) (Elements text) e → Given text element_words tree_words 7 e
  -- "tree table short", at the "rows it has"
  tree_short : {l : List forms.Row} → Readable text element_words → File text l → tree_words < row_numbers * length l → Given text element_words tree_words 8 (tree_words / row_numbers)
