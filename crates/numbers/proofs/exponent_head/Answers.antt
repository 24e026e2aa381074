-- A sign after the E, or none. Assumes nothing.
use Rattle.numbers.proofs.Laws.{head_two, head_one}
use Rattle.numbers.proofs.exponent_head.Goals as goal

pub returns-then-b-either : goal.returns-then-b-either
returns-then-b-either c = search head_two

pub returns : goal.returns
returns c = search head_one
