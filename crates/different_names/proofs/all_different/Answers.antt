-- What the order tells, and else each name with each. Assumes nothing.
use Rattle.different_names.proofs.Loops.{by_different, by_twice}
use Rattle.different_names.proofs.all_different.Goals as goal

pub returns-in-Different : goal.returns-in-Different
returns-in-Different c = search by_different

pub returns-in-Twice : goal.returns-in-Twice
returns-in-Twice c = search by_twice
