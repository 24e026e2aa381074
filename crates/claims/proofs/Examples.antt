-- A name claimed three times, once as an extended identifier: a lookup gives the first claim of the name, case aside, and the extended one only
-- by its own bytes. Computed from bytes. Assumes nothing.
use Prim.Native.Nat.{ℕ}
use mathlib.Core.Path.{◌≡◌, refl, ◌∙◌}
use mathlib.Core.List.{List}
use native.Mathlib.Omega.{arith}
use lib.ListN.{length}
use Rattle.std.specs.Prelude.{Option, Some, None}
use Rattle.classes.specs.Bytes.{is_letter, lower, is_digit, digit_value}
use Rattle.classes.specs.Signs.{ends_line, separates, is_graphic}
use Rattle.classes.specs.Runs.{in_run, count_while, goes_on, run}
use Rattle.words.specs.Words.{reserved_words, delimiters, bytes_of, begins, spells, place_from}
use Rattle.numbers.specs.Numbers.{digits, exponent, below_base, based, pointed, number}
use Rattle.numbers.specs.Digits.{digit_in, value_spelled, leading, exponent_head}
use Rattle.quoted.specs.Quoted.{closed_from}
use Rattle.elements.specs.Element.{unreadable_front, identifier_front, extended_front, delimiter_front, ruled, spoils_number, element_at}
use Rattle.element_reading.specs.Rows.{lines_of, line_rows, lines_rows, rows_of}
use Rattle.same_names.specs.Spelling.{spelt}
use Rattle.pieces.specs.Cutting.{cut}
use Rattle.pieces.specs.Kinds.{is_heading, behind_word, has_name, ends_at, is_closing, claim_class, piece_class}
use Rattle.lookup.specs.Lookup.{found_of}
use Rattle.meaning.specs.Elements.{at}
use Rattle.meaning.specs.Pieces.{kinds_in_piece, elements_of, pieces_of}
use Rattle.survey_reading.specs.code.Survey.{survey_of, elements_after_survey, items_after}
use Rattle.survey_reading.specs.declared.Summary.{Summary}
use Rattle.std.specs.Prelude.{Ok}
use Rattle.survey_reading.proofs.Promises.{surveyed_exactly}
use Rattle.claims.proofs.Finding.{first_of}
use Rattle.claims.proofs.Promises.{found_after}

abbrev pub text : List ℕ
text = bytes_of "package gas is\n  constant CH4 : natural := 1;\n  constant \\ch4\\ : natural := 2;\n  constant ch4 : natural := 3;\nend package gas;\n"

-- the search over the pieces of a text, computed
unfoldable searched : List ℕ → Option ℕ
unfolding ends_line separates is_letter lower is_digit is_graphic digit_value in_run count_while goes_on run reserved_words delimiters bytes_of begins spells place_from digits digit_in value_spelled leading exponent_head exponent below_base based pointed number closed_from unreadable_front identifier_front extended_front delimiter_front ruled spoils_number element_at lines_of line_rows lines_rows rows_of cut spelt is_heading behind_word has_name ends_at is_closing claim_class piece_class at kinds_in_piece elements_of pieces_of
searched name = first_of name (pieces_of text) 0

bytes : length text ≡ 127
unfolding searched
bytes = refl

rows : length (rows_of text) ≡ 28
unfolding searched
rows = refl

pieces : length (pieces_of text) ≡ 5
unfolding searched
pieces = refl

pub is_surveyed : (x : Summary) × (survey_of text 24576 8192 ≡ Ok x)
is_surveyed = (surveyed_exactly text 24576 8192).1 ((omega (arith, bytes), omega (arith, rows), omega (arith, rows)), omega (arith, pieces), omega (arith, pieces))

-- what a lookup finds after the survey
abbrev pub found : List ℕ → Option ℕ
found name = found_of text (elements_after_survey text 24576 8192) name (items_after text 24576 8192)

-- the first of the two claims of ch4, though the name is doubled
pub doubled_found : found (bytes_of "ch4") ≡ Some 1
unfolding searched
doubled_found = found_after text 24576 8192 is_surveyed.0 is_surveyed.1 (bytes_of "ch4") ∙ refl

-- the extended one, by its own bytes, and by no others
pub extended_found : (found (bytes_of "\\ch4\\") ≡ Some 2) × (found (bytes_of "\\CH4\\") ≡ None)
unfolding searched
extended_found = (
  found_after text 24576 8192 is_surveyed.0 is_surveyed.1 (bytes_of "\\ch4\\") ∙ refl,
  found_after text 24576 8192 is_surveyed.0 is_surveyed.1 (bytes_of "\\CH4\\") ∙ refl,
)
