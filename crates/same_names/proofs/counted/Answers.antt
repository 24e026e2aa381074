-- A byte of a basic name in lower case, any other as it is. Assumes nothing.
use Rattle.same_names.proofs.Laws.{counts_basic}
use Rattle.same_names.proofs.counted.Goals as goal

pub returns-then-basic : goal.returns-then-basic
returns-then-basic c = counts_basic c.args.basic c.args.b _ c.if-basic.true c.lower_case.ensures
