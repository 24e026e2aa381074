-- The ways through a field's head. Assumes nothing.
use Rattle.stored_reading.proofs.Cases.{step_short, step_more, step_long, step_end, step_over, step_field}
use Rattle.stored_reading.proofs.step_of.Goals as goal

pub returns-then-s-lt-HEAD_SIZE : goal.returns-then-s-lt-HEAD_SIZE
returns-then-s-lt-HEAD_SIZE c = search step_short

pub returns-then-s-ne-HEAD_SIZE : goal.returns-then-s-ne-HEAD_SIZE
returns-then-s-ne-HEAD_SIZE c = search step_more

pub returns-then-n-ne0 : goal.returns-then-n-ne0
returns-then-n-ne0 c = search step_long

pub returns-then-t-eq-END_TAG : goal.returns-then-t-eq-END_TAG
returns-then-t-eq-END_TAG c = search step_end

pub returns-then-s-n : goal.returns-then-s-n
returns-then-s-n c = search step_over

pub returns : goal.returns
returns c = search step_field
