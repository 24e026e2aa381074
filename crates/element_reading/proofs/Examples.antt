-- The examples, computed from bytes by the definitions. Assumes nothing.
use mathlib.Core.Path.{refl}
use Rattle.classes.specs.Bytes.{is_letter, lower, is_digit, digit_value}
use Rattle.classes.specs.Signs.{ends_line, separates, is_graphic}
use Rattle.classes.specs.Runs.{in_run, count_while, goes_on, run}
use Rattle.words.specs.Words.{bytes_of, begins, spells, place_from, reserved_words, delimiters}
use Rattle.quoted.specs.Quoted.{closed_from}
use Rattle.numbers.specs.Numbers.{digits, exponent, below_base, based, pointed, number}
use Rattle.numbers.specs.Digits.{digit_in, value_spelled, leading, exponent_head}
use Rattle.elements.specs.Element.{unreadable_front, identifier_front, extended_front, string_front, apostrophe_front, delimiter_front, ruled, spoils_number, element_at}
use Rattle.element_reading.specs.Rows.{lines_of, line_rows, lines_rows, rows_of}
use Rattle.element_reading.specs.Examples.{ElementExamples}

pub examples : ElementExamples
unfolding ends_line separates is_letter lower is_digit is_graphic digit_value in_run count_while goes_on run bytes_of begins spells place_from reserved_words delimiters closed_from digits digit_in value_spelled leading exponent_head exponent below_base based pointed number unreadable_front identifier_front extended_front string_front apostrophe_front delimiter_front ruled spoils_number element_at lines_of line_rows lines_rows rows_of
examples = (
  refl,
  refl,
  refl,
  refl,
  refl,
  refl,
  refl,
  refl,
  refl,
  refl,
  refl,
  refl,
  refl,
  refl,
  refl,
  refl,
  refl,
  refl,
  refl,
  refl,
  refl,
  refl,
  refl,
  refl,
)
