-- The refusals' numbers and places: the table of 01's "Refusals and their order", and the numbers of 02's. When each is given stands where the
-- reading is defined. Assumes nothing.
use Rattle.std.specs.Prelude.{ℕ}
use Rattle.places.specs.Sizes.{most_pieces}
use Rattle.refusals.specs.declared.Refusal.{Refusal}
use Rattle.refusals.specs.declared.Refusal.TheVariants.{TextTooLong, TooManyElements, TableShort}
use Rattle.refusals.specs.declared.StrictRefusal.{StrictRefusal}
use Rattle.refusals.specs.declared.StrictRefusal.TheVariants as S
use Rattle.refusals.specs.declared.SurveyRefusal.{SurveyRefusal}
use Rattle.refusals.specs.declared.SurveyRefusal.TheVariants as survey

-- the numbers that more than one reader gives: "item table short"; of 02, request 01, "21, survey not whole; 22, output short"; "24, bytes that
-- aren't exactly one such table"
abbrev pub items_short_number : ℕ
items_short_number = 10

abbrev pub not_whole_number : ℕ
not_whole_number = 21

abbrev pub output_short_number : ℕ
output_short_number = 22

abbrev pub not_stored_number : ℕ
not_stored_number = 24

-- "text too long"; "more than 8,192 elements"; "element table short"
abbrev pub refusal_number : Refusal → ℕ
refusal_number (TextTooLong p) = 1
refusal_number (TooManyElements e) = 3
refusal_number (TableShort e) = 4

abbrev pub refusal_place : Refusal → ℕ
refusal_place (TextTooLong p) = p.0
refusal_place (TooManyElements e) = e.0
refusal_place (TableShort e) = e.0

-- "strict: an unreadable element"; "begin no file; or the text ends early"; "closing name or label differs"; "more than 32 open"; "tree table
-- short"
abbrev pub strict_number : StrictRefusal → ℕ
strict_number (S.Elements r) = refusal_number r
strict_number (S.Unreadable e) = 2
strict_number (S.NoFile e) = 5
strict_number (S.NameDiffers e) = 6
strict_number (S.TooDeep e) = 7
strict_number (S.TreeShort rows) = 8

abbrev pub strict_place : StrictRefusal → ℕ
strict_place (S.Elements r) = refusal_place r
strict_place (S.Unreadable e) = e.0
strict_place (S.NoFile e) = e.0
strict_place (S.NameDiffers e) = e.0
strict_place (S.TooDeep e) = e.0
strict_place (S.TreeShort rows) = rows

-- "survey: more than 1,024 pieces"; "item table short"
abbrev pub survey_number : SurveyRefusal → ℕ
survey_number (survey.Elements r) = refusal_number r
survey_number survey.TooMany = 9
survey_number (survey.ItemsShort rows) = items_short_number

abbrev pub survey_place : SurveyRefusal → ℕ
survey_place (survey.Elements r) = refusal_place r
survey_place survey.TooMany = most_pieces
survey_place (survey.ItemsShort rows) = rows
