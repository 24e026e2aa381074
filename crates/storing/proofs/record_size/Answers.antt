-- The size of a field, or nothing. Assumes nothing.
use Rattle.storing.proofs.Puts.{size_none, record_size}
use Rattle.storing.proofs.record_size.Goals as goal

pub returns-in-None : goal.returns-in-None
returns-in-None c = search size_none

pub returns-in-Some : goal.returns-in-Some
returns-in-Some c = search record_size
