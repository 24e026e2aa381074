-- The window's promises, each by what is proved at its home. Assumes nothing.
use Prim.Native.Nat.{ℕ, suc, ◌≤◌}
use mathlib.Core.Path.{◌≡◌, refl, ap, subst}
use mathlib.Core.Logic.{◌↔◌}
use mathlib.Core.List.{List, [], ◌∷◌}
use native.Mathlib.Omega.{arith}
use lib.ListN.{length, replicate}
use Rattle.element_reading.specs.Rows as elements
use Rattle.element_reading.specs.Permitted.{Permitted as ElementsPermitted}
use Rattle.element_reading.specs.Given.{element_count}
use Rattle.element_reading.specs.Reading.{reading_of, table_of}
use Rattle.std.specs.Prelude.{Result, Ok, Err}
use Rattle.places.specs.declared.ElementNumber.{ElementNumber}
use Rattle.refusals.specs.declared.Refusal.{Refusal}
use Rattle.refusals.specs.declared.SurveyRefusal.{SurveyRefusal}
use Rattle.element_reading.proofs.Promises as reads
use Rattle.forms.specs.Tree.{Row}
use Rattle.forms.specs.code.RuleActions as frames
use Rattle.forms.specs.Files.{Tiled, TreeFits}
use Rattle.forms.specs.OperatorElements.{OperatorsRight}
use Rattle.forms.specs.Owners.{AllOwned, OwnedOnce, LeavesAre}
use Rattle.one_tree.specs.Files.{IsTree}
use Rattle.one_tree.proofs.Only.{reads_the_tree}
use Rattle.forms.proofs.Tiling.{rows_tiled}
use Rattle.forms.proofs.Fitting.{rows_fit}
use Rattle.forms.proofs.OwnOperators.{operators_right}
use Rattle.forms.proofs.Owners.{all_owned, owned_once}
use Rattle.forms.proofs.Leaves.{leaves_are}
use Rattle.strict_reading.specs.Given.{form_kinds, Elements, same_name_in}
use Rattle.strict_reading.proofs.Promises.{accepted, of_rows, verdict_of_rows}
use Rattle.strict_reading.proofs.Promises as strict
use Rattle.pieces.specs.Columns as column
use Rattle.states.specs.States as states
use Rattle.values.specs.declared.Value.TheVariants.{Without}
use Rattle.meaning.specs.Names.{use_of}
use Rattle.meaning.specs.ItemForms.{ItemForm, HasForm}
use Rattle.meaning.specs.States.{Met, Least, NoneMet}
use Rattle.meaning.specs.Values.{Gives}
use Rattle.survey_reading.specs.code.Survey.{survey_of, elements_after_survey, items_after}
use Rattle.survey_reading.specs.Permitted.{Permitted as SurveyPermitted}
use Rattle.survey_reading.specs.declared.Summary.{Summary}
use Rattle.survey_reading.proofs.Permits as surveys
use Rattle.survey_reading.proofs.Records.{of_items, state_held, number_held, none_held, by_broken, by_doubled, by_least, by_later, by_known, class_word, tallied, whole_held}
use Rattle.damage.proofs.ThirdDemand.{third_demand}
use Rattle.damage.proofs.Common.{always_common}
use Rattle.promises.specs.Promises.{ElementsAnswered, ElementsDecided, ElementsRefused, ElementsZeros, StrictAnswered, StrictDecided, StrictRefused, StrictZeros, SurveyAnswered, SurveyDecided, SurveyRefused, SurveyZeros, ElementsInTable, ElementsInOrder, Acceptance, RowsFitLines, OneTree, RowsNest, OperatorColumn, LeavesAreElements, OwnersInnermost, VerdictOnRows, BrokenState, DoubledState, LeastState, LaterState, StateKnown, NumberExactly, NoNumberElse, ClassOfPiece, FrameOfPieces, PairOfPieces, TallyOfRecords, WholeExactly, SameInBoth, CommonAlways}

-- ==== demand 1

pub elements_answered : ElementsAnswered
elements_answered text words = (reading_of text words, (table_of text words, reads.answered text words))

pub elements_decided : ElementsDecided
elements_decided = reads.no_choice

pub elements_refused : ElementsRefused
elements_refused text words r table p x = (
  (λ e. (subst (λ (y : Result ElementNumber Refusal). ElementsPermitted text words y table) e p).0),
  λ g. (elements_decided text words r (Err x) table (replicate words 0) p (g, refl)).0,
)

pub elements_zeros : ElementsZeros
elements_zeros text words x table p = p.1

pub strict_answered : StrictAnswered
strict_answered = strict.some_answer

pub strict_decided : StrictDecided
strict_decided = strict.no_choice

pub strict_refused : StrictRefused
strict_refused = strict.refused_exactly

pub strict_zeros : StrictZeros
strict_zeros text ew tw x e t p = (p.1, p.2)

pub survey_answered : SurveyAnswered
survey_answered text e i = (survey_of text e i, (elements_after_survey text e i, (items_after text e i, surveys.permits text e i)))

pub survey_decided : SurveyDecided
survey_decided = surveys.no_choice

pub survey_refused : SurveyRefused
survey_refused text ew iw x e i p r = (
  (λ q. (subst (λ (y : Result Summary SurveyRefusal). SurveyPermitted text ew iw y e i) q p).0),
  λ g. (survey_decided text ew iw x (Err r) e (replicate ew 0) i (replicate iw 0) p (g, refl, refl)).0,
)

pub survey_zeros : SurveyZeros
survey_zeros text ew iw x r e i p q = let z = subst (λ (y : Result Summary SurveyRefusal). SurveyPermitted text ew iw y e i) q p in (z.1, z.2)

-- ==== demand 2

pub elements_in_table : ElementsInTable
elements_in_table text words r table p t =
    (elements_decided text words r (Ok (record { 0 = element_count text })) table _ p (t, refl, refl)).1

pub elements_in_order : ElementsInOrder
elements_in_order text = (reads.stand_in_order text, reads.nothing_lost text)

-- ---- the strict reading

-- the text's elements are as many to the forms
size : (rs : List elements.ElementRow) → length (form_kinds rs) ≡ length rs
size [] = refl
size (r ∷ rs) = ap suc (size rs)

pub acceptance : Acceptance
acceptance = accepted

pub rows_fit_lines : RowsFitLines
rows_fit_lines text ew tw n v e t p = of_rows (TreeFits (Elements text)) text ew tw n v e t p (rows_fit (same_name_in text) (Elements text))

pub one_tree : OneTree
one_tree text ew tw n v e t p =
    of_rows (λ rows. (l : List Row) → IsTree (Elements text) l → l ≡ rows) text ew tw n v e t p
    (λ s r l h. (reads_the_tree (same_name_in text) (Elements text) s l r).0 h)

pub rows_nest : RowsNest
rows_nest text ew tw n v e t p =
    of_rows (Tiled 0 (element_count text)) text ew tw n v e t p
    (λ s f. subst (λ (m : ℕ). Tiled 0 m (frames.state_rows s)) (size (elements.rows_of text)) (rows_tiled (same_name_in text) (Elements text) s f))

pub operator_column : OperatorColumn
operator_column text ew tw n v e t p = of_rows (OperatorsRight (Elements text)) text ew tw n v e t p (operators_right (same_name_in text) (Elements text))

pub leaves_are_elements : LeavesAreElements
leaves_are_elements text ew tw n v e t p =
    of_rows (LeavesAre (element_count text)) text ew tw n v e t p
    (λ s f. subst (λ (m : ℕ). LeavesAre m (frames.state_rows s)) (size (elements.rows_of text)) (leaves_are (same_name_in text) (Elements text) s f))

pub owners_innermost : OwnersInnermost
owners_innermost text ew tw n v e t p =
    of_rows (λ rows. AllOwned (Elements text) rows × OwnedOnce (Elements text) rows) text ew tw n v e t p
    (λ s f. (all_owned (same_name_in text) (Elements text) s f, owned_once (same_name_in text) (Elements text) s f))

pub verdict_on_rows : VerdictOnRows
verdict_on_rows = verdict_of_rows

-- ---- the survey

pub broken_state : BrokenState
broken_state = of_items _ (λ all above p word h. state_held all above p word h _ (by_broken all above p))

pub doubled_state : DoubledState
doubled_state = of_items _ (λ all above p word h. state_held all above p word h _ (by_doubled all above p))

pub least_state : LeastState
least_state =
    of_items (λ all above p word. (s : ℕ) → 1 ≤ s → s ≤ states.kind → (word column.state ≡ s) ↔ Least (Met all above p) s)
    (λ all above p word h s a b. state_held all above p word h s (by_least all above p s a b))

pub later_state : LaterState
later_state =
    of_items
    (λ all above p word. (s : ℕ) → states.divisor ≤ s → (word column.state ≡ s) ↔ (NoneMet (Met all above p) × ((i : ItemForm) × (HasForm p i × Gives (use_of all above) i (Without s)))))
    (λ all above p word h s a. state_held all above p word h s (by_later all above p s a))

pub state_known : StateKnown
state_known = of_items (λ all above p word. word column.state ≤ states.range) (λ all above p word h. omega (arith, h.state_is, by_known all above p))

pub number_exactly : NumberExactly
number_exactly = of_items _ number_held

pub no_number_else : NoNumberElse
no_number_else = of_items _ none_held

pub class_of_piece : ClassOfPiece
class_of_piece text e i y elements items f = (f.pieces, class_word text e i y elements items f)

pub frame_of_pieces : FrameOfPieces
frame_of_pieces text e i y elements items f = f.frame

pub pair_of_pieces : PairOfPieces
pair_of_pieces text e i y elements items f = f.pair

pub tally_of_records : TallyOfRecords
tally_of_records = tallied

pub whole_exactly : WholeExactly
whole_exactly = whole_held

-- ==== demand 3

pub same_in_both : SameInBoth
same_in_both = third_demand

pub common_always : CommonAlways
common_always = always_common
