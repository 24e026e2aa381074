-- What its first byte opens, each by its own function. Assumes nothing.
use Rattle.elements.proofs.Cases.{by_nothing, opened_separator, opened_letter, opened_digit, opened_quote, opened_backslash, opened_apostrophe, opened_other}
use Rattle.elements.proofs.element_at.Goals as goal

pub returns-then-s-eq0 : goal.returns-then-s-eq0
returns-then-s-eq0 c = search by_nothing

pub returns-in-Separator : goal.returns-in-Separator
returns-in-Separator c = search opened_separator

pub returns-in-Letter : goal.returns-in-Letter
returns-in-Letter c = search opened_letter

pub returns-in-Digit : goal.returns-in-Digit
returns-in-Digit c = search opened_digit

pub returns-in-Quote : goal.returns-in-Quote
returns-in-Quote c = search opened_quote

pub returns-in-Backslash : goal.returns-in-Backslash
returns-in-Backslash c = search opened_backslash

pub returns-in-Apostrophe : goal.returns-in-Apostrophe
returns-in-Apostrophe c = search opened_apostrophe

pub returns-in-Other : goal.returns-in-Other
returns-in-Other c = search opened_other
