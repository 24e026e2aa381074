-- The tables written out by hand, computed. Assumes nothing.
use mathlib.Core.Path.{refl}
use native.Mathlib.Omega.{arith}
use Rattle.classes.specs.Bytes.{is_letter, lower, is_digit}
use Rattle.classes.specs.Signs.{separates, is_graphic}
use Rattle.classes.specs.Runs.{in_run, count_while, goes_on, run}
use Rattle.words.specs.Words.{reserved_words, delimiters, bytes_of, begins, spells, place_from}
use Rattle.quoted.specs.Quoted.{closed_from}
use Rattle.elements.specs.Element.{unreadable_front, identifier_front, extended_front, delimiter_front, ruled, element_at}
use Rattle.stored.specs.Fields.{field_bytes, fields_bytes, writable, all_writable}
use Rattle.stored.specs.StoredItems.{four_bytes, number_bytes, value_bytes, item_field}
use Rattle.stored.specs.LegalNames.{in_lower_case, legal_name}
use Rattle.stored.specs.Stored.{stored_bytes as table_bytes, same_bytes, among, distinct, sized, item_legal, all_legal, form_one}
use Rattle.stored.specs.Examples.{FiveFields, ExtendedName, NoItems, NoNames}

pub five_fields : FiveFields
unfolding separates is_letter lower is_digit is_graphic in_run count_while goes_on run reserved_words bytes_of begins spells place_from unreadable_front identifier_front ruled element_at field_bytes fields_bytes writable all_writable four_bytes number_bytes value_bytes item_field in_lower_case legal_name table_bytes same_bytes among distinct sized item_legal all_legal form_one
five_fields = record { bytes = refl; legal = record { titled = refl; each = refl; few = omega arith; different = refl; written = refl } }

pub extended_name : ExtendedName
unfolding separates is_letter lower is_digit is_graphic bytes_of closed_from unreadable_front extended_front ruled element_at field_bytes fields_bytes writable all_writable four_bytes number_bytes value_bytes item_field in_lower_case legal_name table_bytes same_bytes among distinct sized item_legal all_legal form_one
extended_name = record { bytes = refl; legal = record { titled = refl; each = refl; few = omega arith; different = refl; written = refl } }

pub no_items : NoItems
unfolding separates is_letter lower is_digit in_run count_while goes_on run reserved_words bytes_of begins spells place_from unreadable_front identifier_front ruled element_at field_bytes fields_bytes writable all_writable in_lower_case legal_name table_bytes distinct all_legal form_one
no_items = record { bytes = refl; legal = record { titled = refl; each = refl; few = omega arith; different = refl; written = refl } }

pub no_names : NoNames
unfolding separates is_letter lower is_digit is_graphic in_run count_while goes_on run reserved_words delimiters bytes_of begins spells place_from closed_from unreadable_front identifier_front extended_front delimiter_front ruled element_at in_lower_case legal_name
no_names = (refl, refl, refl, refl, refl, refl)
