-- The three ways of a delimiter. Assumes nothing.
use Rattle.elements.proofs.Cases.{delimiter_fits, double_short, double_found, double_none}
use Rattle.elements.proofs.delimiter_at.Goals as goal

pub returns-then-s-lt-LONG_DELIMITER : goal.returns-then-s-lt-LONG_DELIMITER
returns-then-s-lt-LONG_DELIMITER c = search double_short

pub overflow_cast-result : goal.overflow_cast-result
overflow_cast-result c = search delimiter_fits

pub returns-in-Some : goal.returns-in-Some
returns-in-Some c = search double_found

pub returns-in-None : goal.returns-in-None
returns-in-None c = search double_none
