-- A name told or not. Assumes nothing.
use Rattle.names.proofs.Speaking.{told_so, told_not}
use Rattle.names.proofs.told.Goals as goal

pub returns-then-spelled_as : goal.returns-then-spelled_as
returns-then-spelled_as c = told_so _ _ _ c.spelled_as.ensures c.if-spelled_as.true

pub returns-else-spelled_as : goal.returns-else-spelled_as
returns-else-spelled_as c = told_not _ _ _ c.spelled_as.ensures c.if-spelled_as.false
