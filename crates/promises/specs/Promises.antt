-- The window: the owner's three demands in their order, and under each the statements that meet it, over what the public functions answer and
-- leave in the tables lent to them. Each function's contract is one predicate, `Permitted`; proofs/Promises.antt proves each statement by citing
-- its home. Assumes nothing: these are definitions.
use Rattle.std.specs.Prelude.{ℕ, ◌-◌, ◌*◌, ◌≤◌, ◌<◌, ◌≡◌, ◌↔◌, ◌⊎◌, true, List, ◌++◌, Result, Ok, Err, length, get_or, replicate}
use Rattle.places.specs.Places.{row_words}
use Rattle.refusals.specs.Refusals.{refusal_number, refusal_place, strict_number, strict_place, survey_number, survey_place}
use Rattle.refusals.specs.declared.Refusal.{Refusal}
use Rattle.refusals.specs.declared.StrictRefusal.{StrictRefusal}
use Rattle.refusals.specs.declared.SurveyRefusal.{SurveyRefusal}
use Rattle.element_reading.specs.Rows.{rows_of}
use Rattle.element_reading.specs.Table.{cells}
use Rattle.element_reading.specs.Given.{element_count, Taken, Given as ElementsGiven}
use Rattle.element_reading.specs.Permitted.{Permitted as ElementsPermitted}
use Rattle.element_reading.specs.Promises.{Laid, InOrder}
use Rattle.places.specs.declared.ElementNumber.{ElementNumber}
use Rattle.forms.specs.Tree.{Row}
use Rattle.forms.specs.RowWords.{tree_rows_in}
use Rattle.forms.specs.Files.{Tiled, TreeFits}
use Rattle.one_tree.specs.Files.{IsTree}
use Rattle.forms.specs.OperatorElements.{OperatorsRight}
use Rattle.forms.specs.Owners.{AllOwned, OwnedOnce, LeavesAre}
use Rattle.verdict.specs.Verdict.{Judged}
use Rattle.verdict.specs.declared.Verdict.{Verdict}
use Rattle.strict_reading.specs.declared.Judgement.{Judgement}
use Rattle.strict_reading.specs.Given.{Elements, IsRead, Given as StrictGiven}
use Rattle.strict_reading.specs.Permitted.{Permitted as StrictPermitted}
use Rattle.records.specs.Records.{word_at, is_item}
use Rattle.pieces.specs.Columns as column
use Rattle.records.specs.Tallies.{in_state}
use Rattle.states.specs.States as states
use Rattle.values.specs.declared.Value.TheVariants.{Without}
use Rattle.meaning.specs.Pieces.{pieces_of, class_of}
use Rattle.meaning.specs.Names.{own_doubled, use_of}
use Rattle.meaning.specs.ItemForms.{ItemForm, HasForm}
use Rattle.meaning.specs.States.{Met, Least, NoneMet}
use Rattle.meaning.specs.Values.{Gives}
use Rattle.meaning.specs.Together.{GoodFrame, FirstPair}
use Rattle.meaning.specs.Records.{record_count, piece_of}
use Rattle.meaning.specs.FittingPieces.{FitsAForm}
use Rattle.survey_reading.specs.Given.{Given as SurveyGiven}
use Rattle.survey_reading.specs.Permitted.{Permitted as SurveyPermitted, LeavesTables}
use Rattle.survey_reading.specs.Records.{OfSurveys, OfItems, Numbered}
use Rattle.survey_reading.specs.declared.Summary.{Summary}
use Rattle.damage.specs.PlacedElements.{In, PlacedPiece, SameEach, PieceOf, record_after}
use Rattle.damage.specs.Damage.{OneLine, olds, news, NoneChanged, Undisturbed, Common, ClosedAbove, OpenedBelow}

-- ==== Demand 1. "Any bytes and any lent tables may be given, and every call ends. A refusal carries its number from 01 and its place, is given
-- exactly when 01 says, and leaves every lent table all zeros."

-- Of the element reader, `element_reading::read_elements`: there is an answer, for every text and every table; it is the only one; a refusal is
-- given exactly when 01's table says, with its number and its place; and it leaves zeros.
abbrev pub ElementsAnswered : Type 0
ElementsAnswered = (text : List ℕ) (words : ℕ) → (r : Result ElementNumber Refusal) × ((table : List ℕ) × ElementsPermitted text words r table)

abbrev pub ElementsDecided : Type 0
ElementsDecided =
    (text : List ℕ) (words : ℕ) (r r' : Result ElementNumber Refusal) (table table' : List ℕ) → ElementsPermitted text words r table → ElementsPermitted text words r' table'
    → (r ≡ r') × (table ≡ table')

abbrev pub ElementsRefused : Type 0
ElementsRefused =
    (text : List ℕ) (words : ℕ) (r : Result ElementNumber Refusal) (table : List ℕ) → ElementsPermitted text words r table
    → (x : Refusal) → (r ≡ Err x) ↔ ElementsGiven text words (refusal_number x) (refusal_place x)

abbrev pub ElementsZeros : Type 0
ElementsZeros = (text : List ℕ) (words : ℕ) (x : Refusal) (table : List ℕ) → ElementsPermitted text words (Err x) table → table ≡ replicate words 0

-- of the strict reading, `strict_reading::read_strict`
abbrev pub StrictAnswered : Type 0
StrictAnswered =
    (text : List ℕ) (element_words tree_words : ℕ)
    → (r : Result Judgement StrictRefusal) × ((elements : List ℕ) × ((tree : List ℕ) × StrictPermitted text element_words tree_words r elements tree))

abbrev pub StrictDecided : Type 0
StrictDecided =
    (text : List ℕ) (element_words tree_words : ℕ) (r r' : Result Judgement StrictRefusal) (elements elements' tree tree' : List ℕ)
    → StrictPermitted text element_words tree_words r elements tree → StrictPermitted text element_words tree_words r' elements' tree'
    → (r ≡ r') × (elements ≡ elements') × (tree ≡ tree')

abbrev pub StrictRefused : Type 0
StrictRefused =
    (text : List ℕ) (element_words tree_words : ℕ) (r : Result Judgement StrictRefusal) (elements tree : List ℕ) → StrictPermitted text element_words tree_words r elements tree
    → (x : StrictRefusal) → (r ≡ Err x) ↔ StrictGiven text element_words tree_words (strict_number x) (strict_place x)

abbrev pub StrictZeros : Type 0
StrictZeros =
    (text : List ℕ) (element_words tree_words : ℕ) (x : StrictRefusal) (elements tree : List ℕ)
    → StrictPermitted text element_words tree_words (Err x) elements tree
    → (elements ≡ replicate element_words 0) × (tree ≡ replicate tree_words 0)

-- of the survey, `survey_reading::read_survey`
abbrev pub SurveyAnswered : Type 0
SurveyAnswered =
    (text : List ℕ) (element_words item_words : ℕ)
    → (x : Result Summary SurveyRefusal) × ((elements : List ℕ) × ((items : List ℕ) × SurveyPermitted text element_words item_words x elements items))

abbrev pub SurveyDecided : Type 0
SurveyDecided =
    (text : List ℕ) (element_words item_words : ℕ) (x x' : Result Summary SurveyRefusal) (elements elements' items items' : List ℕ)
    → SurveyPermitted text element_words item_words x elements items → SurveyPermitted text element_words item_words x' elements' items'
    → (x ≡ x') × (elements ≡ elements') × (items ≡ items')

abbrev pub SurveyRefused : Type 0
SurveyRefused =
    (text : List ℕ) (element_words item_words : ℕ) (x : Result Summary SurveyRefusal) (elements items : List ℕ) → SurveyPermitted text element_words item_words x elements items
    → (r : SurveyRefusal) → (x ≡ Err r) ↔ SurveyGiven text element_words item_words (survey_number r) (survey_place r)

abbrev pub SurveyZeros : Type 0
SurveyZeros =
    (text : List ℕ) (element_words item_words : ℕ) (x : Result Summary SurveyRefusal) (r : SurveyRefusal) (elements items : List ℕ)
    → SurveyPermitted text element_words item_words x elements items
    → x ≡ Err r
    → (elements ≡ replicate element_words 0) × (items ≡ replicate item_words 0)

-- ==== Demand 2. "Elements, tree, acceptance, verdict, item states and folded numbers are those of the VHDL standard, the 1076.6 draft and 01. The
-- tree's leaves are the text's elements in order. An item without a number in that meaning is given none."

-- ---- elements

-- a text that is read leaves its elements, a row to each, and zeros after them
abbrev pub ElementsInTable : Type 0
ElementsInTable =
    (text : List ℕ) (words : ℕ) (r : Result ElementNumber Refusal) (table : List ℕ) → ElementsPermitted text words r table → Taken text words
    → table ≡ cells (rows_of text) ++ replicate (words - row_words * element_count text) 0

-- they stand in order, and every byte of the text lies in exactly one of them, or is a separator, a line end or part of a comment
abbrev pub ElementsInOrder : Type 0
ElementsInOrder = (text : List ℕ) → InOrder 0 (rows_of text) (length text) × Laid 0 text (rows_of text)

-- ---- the strict reading: the text is read, with element and tree tables of any size, n rows and the verdict v are answered, and the tables hold
-- `elements` and `tree`. The rows are the first n of the tree table.

-- what is said of the rows that a text which is read leaves in the tree table, whatever the sizes of the tables
abbrev pub OfRows : (List ℕ → Verdict → List Row → Type 0) → Type 0
OfRows P =
    (text : List ℕ) (element_words tree_words n : ℕ) (v : Verdict) (elements tree : List ℕ)
    → StrictPermitted text element_words tree_words (Ok (record { rows = n; verdict = v })) elements tree → P text v (tree_rows_in n tree)

-- "acceptance": a text is read exactly where it is a file by the forms and no refusal of 01's table is due
abbrev pub Acceptance : Type 0
Acceptance =
    (text : List ℕ) (element_words tree_words : ℕ) (answer : Result Judgement StrictRefusal) (elements tree : List ℕ) → StrictPermitted text element_words tree_words answer elements tree
    → (n : ℕ) (v : Verdict) → (answer ≡ Ok (record { rows = n; verdict = v })) ↔ IsRead text element_words tree_words n v

-- "tree": every row fits its line of 01's table
abbrev pub RowsFitLines : Type 0
RowsFitLines = OfRows (λ text v rows. TreeFits (Elements text) rows)

-- and only such a tree: any rows that nest within the elements and fit their lines are these
abbrev pub OneTree : Type 0
OneTree = OfRows (λ text v rows. (l : List Row) → IsTree (Elements text) l → l ≡ rows)

-- rows nest: the units stand one right after the other over all the elements, and every row's subtree elementCount and span hold its children and
-- nothing else
abbrev pub RowsNest : Type 0
RowsNest = OfRows (λ text v rows. Tiled 0 (element_count text) rows)

-- the operator column: in forms 28 and 29 the row's own leaf that is the operator, spanned by no child, with one operand or two; else the
-- first element
abbrev pub OperatorColumn : Type 0
OperatorColumn = OfRows (λ text v rows. OperatorsRight (Elements text) rows)

-- "The tree's leaves are the text's elements in order": the leaves of the rows, read in order, are the elements, each once, and each hangs on
-- its owner
abbrev pub LeavesAreElements : Type 0
LeavesAreElements = OfRows (λ text v rows. LeavesAre (element_count text) rows)

-- and that is the innermost row that spans it, and no other
abbrev pub OwnersInnermost : Type 0
OwnersInnermost = OfRows (λ text v rows. AllOwned (Elements text) rows × OwnedOnce (Elements text) rows)

-- "verdict": it passes exactly when no row is not supported, and else names the first such row
abbrev pub VerdictOnRows : Type 0
VerdictOnRows = OfRows (λ text v rows. Judged text (cells (rows_of text)) rows v)

-- ---- the survey: "item states". Of every item: all the text's pieces, those above it with what they come to, its own piece, and the words of its
-- record in the item table.

-- 1 broken, exactly where "no form fits"
abbrev pub BrokenState : Type 0
BrokenState = OfItems (λ all above p word. (word column.state ≡ states.broken) ↔ (FitsAForm p → ⊥))

-- 2 doubled, exactly where one fits and "its name has another claim anywhere, the language's included"
abbrev pub DoubledState : Type 0
DoubledState = OfItems (λ all above p word. (word column.state ≡ states.doubled) ↔ (FitsAForm p × (own_doubled all p ≡ true)))

-- "The smallest of 1 to 6 wins": the state is s, of these, exactly where s is the least that the item meets
abbrev pub LeastState : Type 0
LeastState = OfItems (λ all above p word. (s : ℕ) → 1 ≤ s → s ≤ states.kind → (word column.state ≡ s) ↔ Least (Met all above p) s)

-- 7 to 10, exactly where none of 1 to 6 is met and the item, by its form, ends there
abbrev pub LaterState : Type 0
LaterState =
    OfItems
    (λ all above p word. (s : ℕ) → states.divisor ≤ s → (word column.state ≡ s) ↔ (NoneMet (Met all above p) × ((i : ItemForm) × (HasForm p i × Gives (use_of all above) i (Without s)))))

-- and there is no other state
abbrev pub StateKnown : Type 0
StateKnown = OfItems (λ all above p word. word column.state ≤ states.range)

-- ---- "folded numbers"

-- 0, exactly with its number: "a number, a truth, or for a subtype its low and high end"
abbrev pub NumberExactly : Type 0
NumberExactly = OfItems (λ all above p word. (word column.state ≡ 0) ↔ Numbered all above p word)

-- "An item without a number in that meaning is given none."
abbrev pub NoNumberElse : Type 0
NoNumberElse = OfItems (λ all above p word. (word column.state ≡ 0 → ⊥) → (word column.kind ≡ 0) × (word column.low ≡ 0) × (word column.high ≡ 0))

-- ---- and what the pieces say together

-- "one record to a piece": each has its piece's class in its first word
abbrev pub ClassOfPiece : Type 0
ClassOfPiece =
    OfSurveys (λ text y items. (y.pieces ≡ length (pieces_of text)) × ((j : ℕ) → j < record_count (pieces_of text) → word_at items j 0 ≡ class_of (piece_of (pieces_of text) j)))

-- the frame, and "the first pair of own items that share a name", are those of the pieces
abbrev pub FrameOfPieces : Type 0
FrameOfPieces = OfSurveys (λ text y items. (y.frame ≡ true) ↔ GoodFrame (pieces_of text))

abbrev pub PairOfPieces : Type 0
PairOfPieces = OfSurveys (λ text y items. FirstPair (pieces_of text) y.pair)

-- "a tally of items by state": each elementCount is how many records are an item's and have that state
abbrev pub TallyOfRecords : Type 0
TallyOfRecords = OfSurveys (λ text y items. (k : ℕ) → k ≤ states.range → get_or y.tally.counts k 0 ≡ in_state k items 0 y.pieces)

-- "The survey is whole when the frame is good and every item is in state 0."
abbrev pub WholeExactly : Type 0
WholeExactly =
    OfSurveys
    (λ text y items.
    (y.whole ≡ true)
    ↔ (GoodFrame (pieces_of text) × ((j : ℕ) → j < record_count (pieces_of text) → is_item (class_of (piece_of (pieces_of text) j)) ≡ true → word_at items j column.state ≡ 0)))

-- ==== Demand 3.

-- "Take two package texts that the survey doesn't refuse and that differ only inside one line, line ends kept. Consider an item made of the same
-- elements, none of that line, in both texts. If neither its own name nor any name it uses, directly or through other items, is claimed in either
-- text by a piece not common to both, it has the same state, kind and number in both."
abbrev pub SameInBoth : Type 0
SameInBoth =
    (s t elements items elements' items' : List ℕ) → LeavesTables s elements items → LeavesTables t elements' items'
    → (d : OneLine s t) (p q : PlacedPiece) (i : PieceOf (olds d) p) (j : PieceOf (news d) q) → SameEach p q → NoneChanged p → Undisturbed (olds d) (news d) p
    → (k : ℕ) → column.state ≤ k → k ≤ column.high → word_at items (record_after i.above) k ≡ word_at items' (record_after j.above) k

-- 'Pieces closed by a semicolon above the line, and pieces opened below it by "constant", "subtype" or "end", are always common.'
abbrev pub CommonAlways : Type 0
CommonAlways = (s t : List ℕ) (d : OneLine s t) (p : PlacedPiece) → In p (olds d) ⊎ In p (news d) → ClosedAbove p ⊎ OpenedBelow p → Common (olds d) (news d) p
