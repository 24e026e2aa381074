-- No name agrees with any. Assumes nothing.
use Rattle.records.specs.Frames.{name_agrees}
use Rattle.records.proofs.name_agrees.Goals as goal

pub returns-in-Some : goal.returns-in-Some
unfolding name_agrees
returns-in-Some c = rw c.in-Some.is c.same_name.ensures

pub returns-in-None : goal.returns-in-None
unfolding name_agrees
returns-in-None c = rw c.in-None.is
