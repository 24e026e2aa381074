-- The seven ways that a byte opens. Assumes nothing.
use Rattle.elements.proofs.Cases.{opens_separator, opens_letter, opens_digit, opens_quote, opens_backslash, opens_apostrophe, opens_other}
use Rattle.elements.proofs.opens_with.Goals as goal

pub returns-then-separator : goal.returns-then-separator
returns-then-separator c = search opens_separator

pub returns-then-is_letter : goal.returns-then-is_letter
returns-then-is_letter c = search opens_letter

pub returns-then-is_digit : goal.returns-then-is_digit
returns-then-is_digit c = search opens_digit

pub returns-then-b-eq34 : goal.returns-then-b-eq34
returns-then-b-eq34 c = search opens_quote

pub returns-then-b-eq92 : goal.returns-then-b-eq92
returns-then-b-eq92 c = search opens_backslash

pub returns-then-b-eq39 : goal.returns-then-b-eq39
returns-then-b-eq39 c = search opens_apostrophe

pub returns : goal.returns
returns c = search opens_other
