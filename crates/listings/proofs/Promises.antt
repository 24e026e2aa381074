-- A text has one listing. Assumes nothing.
use Prim.Native.Nat.{ℕ}
use mathlib.Core.Path.{refl, ap, sym, ◌∙◌}
use mathlib.Core.List.{List}
use Rattle.std.specs.Prelude.{Result}
use Rattle.refusals.specs.declared.StrictRefusal.{StrictRefusal}
use Rattle.refusals.specs.declared.SurveyRefusal.{SurveyRefusal}
use Rattle.strict_reading.specs.declared.Judgement.{Judgement}
use Rattle.survey_reading.specs.declared.Summary.{Summary}
use Rattle.survey_reading.specs.code.Survey.{survey_of, elements_after_survey, items_after}
use Rattle.survey_reading.proofs.Permits as survey
use Rattle.strict_reading.proofs.Promises as strict
use Rattle.item_lines.specs.Lines.{survey_listing}
use Rattle.record_lines.specs.Lines.{record_listing}
use Rattle.tree_lines.specs.Lines.{tree_listing}
use Rattle.kawhiluhe.specs.AnswerNumbers.{strict_numbers, survey_numbers}
use Rattle.kawhiluhe.specs.AnswerWords.{judged_words, surveyed_words}
use Rattle.listings.specs.Listings.{OneItemListing, OneRecordListing, OneTreeListing, SomeItemListing, SomeRecordListing, SomeTreeListing}

pub one_item_listing : OneItemListing
one_item_listing text e i bytes bytes' (x, (t, (u, (p, q)))) (x', (t', (u', (p', q')))) =
    let same = survey.no_choice text e i x x' t t' u u' p p' in
    q ∙ ap (λ (y : Result Summary SurveyRefusal). survey_listing text t u (surveyed_words (survey_numbers y))) same.0
    ∙ ap (λ (l : List ℕ). survey_listing text l u (surveyed_words (survey_numbers x'))) same.1
    ∙ ap (λ (l : List ℕ). survey_listing text t' l (surveyed_words (survey_numbers x'))) same.2 ∙ sym q'

pub one_record_listing : OneRecordListing
one_record_listing text e i bytes bytes' (x, (t, (u, (p, q)))) (x', (t', (u', (p', q')))) =
    let same = survey.no_choice text e i x x' t t' u u' p p' in
    q ∙ ap (λ (y : Result Summary SurveyRefusal). record_listing u (surveyed_words (survey_numbers y))) same.0
    ∙ ap (λ (l : List ℕ). record_listing l (surveyed_words (survey_numbers x'))) same.2 ∙ sym q'

pub one_tree_listing : OneTreeListing
one_tree_listing text e i bytes bytes' (x, (t, (u, (p, q)))) (x', (t', (u', (p', q')))) =
    let same = strict.no_choice text e i x x' t t' u u' p p' in
    q ∙ ap (λ (y : Result Judgement StrictRefusal). tree_listing u (judged_words (strict_numbers y))) same.0
    ∙ ap (λ (l : List ℕ). tree_listing l (judged_words (strict_numbers x'))) same.2 ∙ sym q'

pub some_item_listing : SomeItemListing
some_item_listing text e i = (
  survey_listing text (elements_after_survey text e i) (items_after text e i) (surveyed_words (survey_numbers (survey_of text e i))),
  (survey_of text e i, (elements_after_survey text e i, (items_after text e i, (survey.permits text e i, refl)))),
)

pub some_record_listing : SomeRecordListing
some_record_listing text e i = (
  record_listing (items_after text e i) (surveyed_words (survey_numbers (survey_of text e i))),
  (survey_of text e i, (elements_after_survey text e i, (items_after text e i, (survey.permits text e i, refl)))),
)

pub some_tree_listing : SomeTreeListing
some_tree_listing text e i =
    let a = strict.some_answer text e i in
    (tree_listing a.1.1.0 (judged_words (strict_numbers a.0)), (a.0, (a.1.0, (a.1.1.0, (a.1.1.1, refl)))))
