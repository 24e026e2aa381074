-- What the survey's steps make of any tables, in their order; specs/Survey.antt says what comes of a text. Assumes nothing.
use Rattle.std.specs.Prelude.{ℕ, ◌*◌, Bool, cond, List, Option, None, Result, Ok, Err, length, replicate}
use Rattle.places.specs.Sizes.{most_elements, most_pieces}
use Rattle.forms.specs.RowWords.{row_numbers}
use Rattle.pieces.specs.Records.{pieces_in, recording, record_table}
use Rattle.pieces.specs.declared.NotRecorded.{NotRecorded}
use Rattle.pieces.specs.declared.NotRecorded.TheVariants as M
use Rattle.pairs.specs.code.Pairs.{pair_of}
use Rattle.names.specs.code.Links.{links_table, owns_table, twins_table, any_twin}
use Rattle.tree.specs.code.PieceRows.{item_rows}
use Rattle.items.specs.code.Items.{completed}
use Rattle.survey_reading.specs.code.Survey.{summed_of}
use Rattle.survey_reading.specs.declared.Summary.{Summary}
use Rattle.refusals.specs.declared.SurveyRefusal.{SurveyRefusal}
use Rattle.refusals.specs.declared.SurveyRefusal.TheVariants.{TooMany, ItemsShort}

abbrev pub pair_by : Bool → List ℕ → ℕ → Option (ℕ × ℕ)
pair_by any owns n = cond any (pair_of owns n) None

-- the records of n marked pieces, completed
unfoldable pub items_completed : List ℕ → List ℕ → ℕ → List ℕ → ℕ → List ℕ
items_completed text table count items n =
    completed text table (links_table text table count items most_elements) (twins_table text table items most_pieces) (item_rows table count (row_numbers * most_elements)) items n

unfoldable pub items_survey : List ℕ → List ℕ → ℕ → List ℕ → ℕ → Summary
items_survey text table count items n =
    summed_of text table count (items_completed text table count items n) n (pair_by (any_twin text table items) (owns_table text table items most_pieces) n)

abbrev pub items_by_recording : Result ℕ NotRecorded → List ℕ → List ℕ → ℕ → List ℕ → Result Summary SurveyRefusal
items_by_recording (Ok n) text table count items = Ok (items_survey text table count items n)
items_by_recording (Err M.TooMany) text table count items = Err TooMany
items_by_recording (Err (M.TableShort rows)) text table count items = Err (ItemsShort rows)

-- 9, 10, or the survey of the pieces
unfoldable pub pieces_survey : List ℕ → List ℕ → ℕ → ℕ → Result Summary SurveyRefusal
pieces_survey text table count words = items_by_recording (recording (length (pieces_in table count)) words) text table count (record_table (pieces_in table count) words)

abbrev pub items_by_marking : Result ℕ NotRecorded → List ℕ → List ℕ → ℕ → List ℕ → List ℕ
items_by_marking (Ok n) text table count items = items_completed text table count items n
items_by_marking (Err M.TooMany) text table count items = items
items_by_marking (Err (M.TableShort rows)) text table count items = items

unfoldable pub pieces_items : List ℕ → List ℕ → ℕ → ℕ → List ℕ
pieces_items text table count words = items_by_marking (recording (length (pieces_in table count)) words) text table count (record_table (pieces_in table count) words)

-- "On refusal every lent table is all zeros."
abbrev pub kept_by_survey : Result Summary SurveyRefusal → List ℕ → List ℕ
kept_by_survey (Ok y) table = table
kept_by_survey (Err r) table = replicate (length table) 0
