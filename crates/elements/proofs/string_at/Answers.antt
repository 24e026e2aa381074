-- The two ways of a string. Assumes nothing.
use Rattle.elements.proofs.Cases.{closed_fits}
use Rattle.elements.proofs.Cases.{string_open, string_whole}
use Rattle.elements.proofs.string_at.Goals as goal

pub overflow_add-result : goal.overflow_add-result
overflow_add-result c = search closed_fits

pub returns-in-Some : goal.returns-in-Some
returns-in-Some c = search string_whole

pub returns-in-None : goal.returns-in-None
returns-in-None c = search string_open
