-- By the step, and what the field holds. Assumes nothing.
use Rattle.stored_reading.proofs.Cases.{turn_bad, turn_end, turn_none, turn_gives}
use Rattle.stored_reading.proofs.turn_of.Goals as goal

pub returns-in-Bad : goal.returns-in-Bad
returns-in-Bad c = search turn_bad

pub returns-in-End : goal.returns-in-End
returns-in-End c = search turn_end

pub returns-in-None : goal.returns-in-None
returns-in-None c = search turn_none

pub returns-in-Some : goal.returns-in-Some
returns-in-Some c = search turn_gives
