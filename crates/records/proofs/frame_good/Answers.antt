-- What the pieces say, and then what their names say. Assumes nothing.
use Rattle.records.specs.Frames.{good_in, frame_good}
use Rattle.records.proofs.frame_good.Goals as goal

pub returns-in-Some : goal.returns-in-Some
unfolding frame_good good_in
returns-in-Some c = rw (← c.frame_of.ensures, c.in-Some.is) c.name_agrees.ensures

pub returns-in-None : goal.returns-in-None
unfolding frame_good good_in
returns-in-None c = rw (← c.frame_of.ensures, c.in-None.is)
