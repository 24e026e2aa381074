-- The three ways that `goes_on` goes. Assumes nothing.
use Rattle.classes.proofs.Laws.{goes_yes, goes_no, goes_over}
use Rattle.classes.proofs.goes_on.Goals as goal

pub returns-then-in_run : goal.returns-then-in_run
returns-then-in_run c = search goes_yes

pub returns-then-b-ne95 : goal.returns-then-b-ne95
returns-then-b-ne95 c = search goes_no

pub returns : goal.returns
returns c = search goes_over
