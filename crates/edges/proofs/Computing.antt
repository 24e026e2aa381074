-- The definitions between a text's bytes and its records, named once: what unfolds `computing` computes them all. Assumes nothing.
use lib.IntN.{pow, one}
use Rattle.classes.specs.Bytes.{is_letter, lower, is_digit, digit_value}
use Rattle.classes.specs.Signs.{ends_line, separates, is_graphic}
use Rattle.classes.specs.Runs.{in_run, count_while, goes_on, run}
use Rattle.words.specs.Words.{bytes_of, begins, spells, place_from, reserved_words, delimiters}
use Rattle.numbers.specs.Numbers.{digits, exponent, below_base, based, pointed, number}
use Rattle.numbers.specs.Digits.{digit_in, value_spelled, leading, exponent_head}
use Rattle.quoted.specs.Quoted.{closed_from}
use Rattle.elements.specs.Element.{unreadable_front, identifier_front, extended_front, string_front, apostrophe_front, delimiter_front, ruled, spoils_number, element_at}
use Rattle.spelled.specs.Spelled.{kind_of}
use Rattle.element_reading.specs.Rows.{lines_of, line_rows, lines_rows, rows_of}
use Rattle.same_names.specs.Spelling.{spelt}
use Rattle.pieces.specs.Cutting.{cut}
use Rattle.pieces.specs.Kinds.{is_heading, behind_word, has_name, ends_at, is_closing, claim_class, piece_class, any_down}
use Rattle.pieces.specs.Records.{name_of}
use Rattle.meaning.specs.Elements.{at}
use Rattle.meaning.specs.Pieces.{elements_of, kinds_in_piece, pieces_of}
use Rattle.grammars.specs.code.Actions.{runs}
use Rattle.forms.specs.code.Kinds.{terminal_of}
use Rattle.forms.specs.code.Reading.{reading_from}
use Rattle.forms.specs.code.RuleActions.{does}
use Rattle.tree.specs.code.PieceRows.{reading_of_piece, rows_of_piece}
use Rattle.integers.specs.Integers.{sized_of, divided_of, to_sign, power_of}
use Rattle.literals.specs.Literals.{exponent_of, number_in, is_based, literal_number as literal_value, literal_of}
use Rattle.operands.specs.SpelledOperators.{operator_of, sign_of}
use Rattle.operands.specs.code.Operands.{literal_by}
use Rattle.values.specs.Values.{language_value}
use Rattle.marks.specs.code.Marks.{constant_of, ranged_of}
use Rattle.expressions.specs.code.Expressions.{row_outcome, outcome_in}
use Rattle.meaning.specs.Names.{begins_claim, names_claimed, claims, claims_in, claimed_above, first_above, use_of, same_as}
use Rattle.meaning.specs.code.PieceValues.{valued, value_of, dones_from, dones_of, records_of}
use Rattle.meaning.specs.Records.{record_of, records_from}
use Rattle.edges.proofs.Left.{fits, each_fits, each_ends}

unfoldable pub computing : Unit {0}
unfolding bytes_of lines_of ends_line rows_of lines_rows line_rows separates is_letter lower is_digit is_graphic digit_value in_run count_while goes_on run begins spells place_from reserved_words delimiters digits digit_in value_spelled leading exponent_head exponent below_base based pointed number closed_from unreadable_front identifier_front extended_front string_front apostrophe_front delimiter_front ruled spoils_number element_at cut elements_of pieces_of at kinds_in_piece same_as spelt is_heading behind_word has_name ends_at is_closing claim_class piece_class any_down name_of runs terminal_of reading_from does reading_of_piece rows_of_piece sized_of divided_of to_sign power_of pow one exponent_of number_in is_based literal_value literal_of kind_of operator_of sign_of literal_by constant_of ranged_of language_value row_outcome outcome_in begins_claim names_claimed claims claims_in claimed_above first_above use_of valued value_of dones_from dones_of record_of records_from records_of fits each_fits each_ends
computing = tt
