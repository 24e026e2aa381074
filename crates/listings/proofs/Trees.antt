-- The tree of a small package, and the incident's refusal by the strict reading, computed from bytes to bytes. Assumes nothing.
use Prim.Native.Nat.{ℕ, ◌-◌, ◌*◌}
use mathlib.Core.Path.{◌≡◌, refl, ap, sym, ◌∙◌}
use mathlib.Core.List.{List, [], ◌∷◌, ◌++◌}
use lib.ListN.{length, replicate}
use Rattle.words.specs.Words.{bytes_of}
use Rattle.places.specs.Places.{row_words, cell_at, kinds_of}
use Rattle.same_names.specs.Alike.{agree, spelled_same, same_name}
use Rattle.element_reading.specs.Rows.{rows_of}
use Rattle.element_reading.specs.Table.{cells}
use Rattle.element_reading.specs.Reading.{reading_of, table_of, table_by}
use Rattle.std.specs.Prelude.{Result, Ok, Err}
use Rattle.places.specs.declared.ElementNumber.{ElementNumber}
use Rattle.refusals.specs.declared.Refusal.{Refusal}
use Rattle.refusals.specs.declared.StrictRefusal.{StrictRefusal}
use Rattle.forms.specs.RowWords.{row_numbers}
use Rattle.tree.specs.code.Answers.{terminals_of}
use Rattle.verdict.specs.code.Judging.{verdict_from, forms_in, verdict_of}
use Rattle.verdict.specs.declared.Verdict.TheVariants.{Passes}
use Rattle.refusals.specs.declared.StrictRefusal.TheVariants.{NoFile}
use Rattle.strict_reading.specs.declared.Judgement.{Judgement}
use Rattle.strict_reading.specs.code.Strict.{unreadable_from, tree_table, file_of, elements_as, strict_by_reading, strict_of, elements_after_strict, tree_as, tree_by_reading, tree_after}
use Rattle.strict_reading.proofs.Promises.{is_permitted}
use Rattle.puts.specs.Decimals.{digits_of, decimal_of, signed_text, field_of, fields_of}
use Rattle.puts.specs.Lines.{lines_from}
use Rattle.refused_line.specs.Refused.{line_by, lines_by, place_text, refused_of}
use Rattle.tree_lines.specs.Lines.{fails_of, verdict_text as verdict_line, head_of, numbers_at, row_text, listed_line, tree_line, tree_lines, tree_listing}
use Rattle.kawhiluhe.specs.AnswerNumbers.{strict_numbers}
use Rattle.kawhiluhe.specs.AnswerWords.{judged_words}
use Rattle.edges.specs.Incident.{gas}
use Rattle.edges.proofs.Computing.{computing}
use Rattle.listings.specs.Samples.{element_room, tree_room, SampleRefused, small_text, small_tree_lines, SampleTree}
use Rattle.listings.proofs.Samples as gas-is
use Rattle.listings.proofs.Samples.{gas_rows, gas_elements}

-- the incident: its elements begin no file past the fifteenth
gas_answer_lem : elements_as gas gas_elements 38 tree_room ≡ Err (NoFile (record { 0 = 15 }))
unfolding elements_as unreadable_from file_of tree_table terminals_of kinds_of gas_elements gas_rows computing agree spelled_same same_name cell_at
gas_answer_lem = refl

gas_strict : strict_of gas element_room tree_room ≡ Err (NoFile (record { 0 = 15 }))
unfolding strict_of
gas_strict =
    ap (λ (r : Result ElementNumber Refusal). strict_by_reading r gas (table_of gas element_room) tree_room) gas-is.reading_is
    ∙ ap (λ (t : List ℕ). elements_as gas t 38 tree_room) gas-is.table_is ∙ gas_answer_lem

refused_line_is : (tree : List ℕ) → tree_listing tree (5 ∷ 15 ∷ 0 ∷ 0 ∷ 0 ∷ []) ≡ bytes_of "refused 5 at 15\n"
unfolding tree_listing tree_line tree_lines line_by lines_by lines_from refused_of place_text decimal_of digits_of bytes_of
refused_line_is tree = refl

pub sample_refused : SampleRefused
unfolding judged_words
sample_refused = (
  strict_of gas element_room tree_room,
  (
    elements_after_strict gas element_room tree_room,
    (
      tree_after gas element_room tree_room,
      (
        is_permitted gas element_room tree_room,
        sym
            (ap (λ (x : Result Judgement StrictRefusal). tree_listing (tree_after gas element_room tree_room) (judged_words (strict_numbers x))) gas_strict
            ∙ refused_line_is (tree_after gas element_room tree_room)),
      ),
    ),
  ),
)

-- the small package: its elements, and its rows
small_rows : List ℕ
small_rows =
    98 ∷ 0 ∷ 7 ∷ 1 ∷ 8 ∷ 1 ∷ 78 ∷ 10 ∷ 2 ∷ 53 ∷ 13 ∷ 8 ∷ 1 ∷ 22 ∷ 1 ∷ 25 ∷ 24 ∷ 1 ∷ 1 ∷ 26 ∷ 7 ∷ 10 ∷ 34 ∷ 2 ∷ 3 ∷ 37 ∷ 1 ∷ 26 ∷ 38 ∷ 1 ∷ 61 ∷ 40
    ∷ 3 ∷ 26 ∷ 43 ∷ 1 ∷ []

small_elements : List ℕ
small_elements = small_rows ++ replicate (element_room - row_words * 12) 0

small_tree : List ℕ
small_tree =
    1 ∷ 0 ∷ 12 ∷ 4 ∷ 0 ∷ 4 ∷ 3 ∷ 7 ∷ 3 ∷ 3 ∷ 31 ∷ 6 ∷ 1 ∷ 1 ∷ 6 ∷ 27 ∷ 8 ∷ 1 ∷ 1 ∷ 8 ∷ []

small_table : List ℕ
small_table = small_tree ++ replicate (tree_room - row_numbers * 4) 0

rows_are : cells (rows_of small_text) ≡ small_rows
unfolding computing cells small_rows
rows_are = refl

count_is : length (rows_of small_text) ≡ 12
unfolding computing
count_is = refl

reading_is : reading_of small_text element_room ≡ Ok (record { 0 = 12 })
unfolding computing reading_of
reading_is = refl

table_is : table_of small_text element_room ≡ small_elements
unfolding table_of small_elements
table_is =
    ap (λ (r : Result ElementNumber Refusal). table_by r small_text element_room) reading_is
    ∙ ap (λ (l : List ℕ). l ++ replicate (element_room - row_words * length (rows_of small_text)) 0) rows_are
    ∙ ap (λ (n : ℕ). small_rows ++ replicate (element_room - row_words * n) 0) count_is

tree_is : tree_as small_text small_elements 12 tree_room ≡ small_table
unfolding tree_as unreadable_from tree_table terminals_of kinds_of small_elements small_rows small_table small_tree computing agree spelled_same same_name cell_at
tree_is = refl

tree_left_lem : tree_after small_text element_room tree_room ≡ small_table
unfolding tree_after
tree_left_lem =
    ap (λ (r : Result ElementNumber Refusal). tree_by_reading r small_text (table_of small_text element_room) tree_room) reading_is
    ∙ ap (λ (t : List ℕ). tree_as small_text t 12 tree_room) table_is ∙ tree_is

answer_is : elements_as small_text small_elements 12 tree_room ≡ Ok (record { rows = 4; verdict = Passes })
unfolding elements_as unreadable_from file_of tree_table terminals_of kinds_of small_elements small_rows computing agree spelled_same same_name cell_at verdict_from forms_in verdict_of
answer_is = refl

strict_is : strict_of small_text element_room tree_room ≡ Ok (record { rows = 4; verdict = Passes })
unfolding strict_of
strict_is =
    ap (λ (r : Result ElementNumber Refusal). strict_by_reading r small_text (table_of small_text element_room) tree_room) reading_is
    ∙ ap (λ (t : List ℕ). elements_as small_text t 12 tree_room) table_is ∙ answer_is

lines_are : tree_listing small_table (0 ∷ 0 ∷ 4 ∷ 1 ∷ 0 ∷ []) ≡ small_tree_lines
unfolding small_table small_tree tree_listing tree_line tree_lines listed_line row_text numbers_at head_of verdict_line fails_of line_by lines_by lines_from fields_of field_of signed_text decimal_of digits_of bytes_of
lines_are = refl

pub sample_tree : SampleTree
unfolding judged_words
sample_tree = (
  strict_of small_text element_room tree_room,
  (
    elements_after_strict small_text element_room tree_room,
    (
      tree_after small_text element_room tree_room,
      (
        is_permitted small_text element_room tree_room,
        sym
            (ap (λ (x : Result Judgement StrictRefusal). tree_listing (tree_after small_text element_room tree_room) (judged_words (strict_numbers x))) strict_is
            ∙ ap (λ (t : List ℕ). tree_listing t (0 ∷ 0 ∷ 4 ∷ 1 ∷ 0 ∷ [])) tree_left_lem ∙ lines_are),
      ),
    ),
  ),
)
