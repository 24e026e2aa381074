-- Each kind of run by its own test. Assumes nothing.
use Rattle.classes.specs.Runs.{in_run}
use Rattle.classes.proofs.in_run.Goals as goal

pub returns-in-Word : goal.returns-in-Word
unfolding in_run
returns-in-Word c = simp (c.in-Word.is, ← c.is_letter.ensures, ← c.is_digit.ensures)

pub returns-in-Below : goal.returns-in-Below
unfolding in_run
returns-in-Below c = simp (c.in-Below.is, ← c.digit_value.ensures)
