-- What the strict reading of a text may answer, and what it then leaves in the two lent tables, of so many words each: 01's forms, its
-- verdict and its table of refusals. Assumes nothing: these are definitions.
use Rattle.std.specs.Prelude.{ℕ, ◌-◌, ◌*◌, ◌≡◌, List, ◌++◌, Result, Ok, Err, replicate}
use Rattle.places.specs.Places.{row_words}
use Rattle.element_reading.specs.Rows.{rows_of}
use Rattle.element_reading.specs.Table.{cells}
use Rattle.forms.specs.Tree.{Row}
use Rattle.forms.specs.RowWords.{row_numbers}
use Rattle.forms.specs.RowWords.{words_of}
use Rattle.refusals.specs.Refusals.{strict_number, strict_place}
use Rattle.refusals.specs.declared.StrictRefusal.{StrictRefusal}
use Rattle.strict_reading.specs.declared.Judgement.{Judgement}
use Rattle.element_reading.specs.Given.{element_count}
use Rattle.strict_reading.specs.Given.{ReadAs, Given}

-- A text that is read leaves its elements and its rows: "On success unused rows are zeros." Else the refusal is one of 01's table, by its
-- number and its place: "On refusal every lent table is all zeros."
abbrev pub Permitted : List ℕ → ℕ → ℕ → Result Judgement StrictRefusal → (elements tree : List ℕ) → Type 0
Permitted text element_words tree_words (Ok j) elements tree =
    (l : List Row)
    × (ReadAs text element_words tree_words j.rows j.verdict l
    × (elements ≡ cells (rows_of text) ++ replicate (element_words - row_words * element_count text) 0)
    × (tree ≡ words_of l ++ replicate (tree_words - row_numbers * j.rows) 0))
Permitted text element_words tree_words (Err r) elements tree =
    Given text element_words tree_words (strict_number r) (strict_place r) × (elements ≡ replicate element_words 0) × (tree ≡ replicate tree_words 0)
