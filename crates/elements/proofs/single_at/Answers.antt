-- The two ways of a delimiter of one byte. Assumes nothing.
use Rattle.elements.proofs.Cases.{delimiter_fits, single_found, single_none}
use Rattle.elements.proofs.single_at.Goals as goal

pub overflow_cast-result : goal.overflow_cast-result
overflow_cast-result c = search delimiter_fits

pub returns-in-Some : goal.returns-in-Some
returns-in-Some c = search single_found

pub returns-in-None : goal.returns-in-None
returns-in-None c = search single_none
