-- A byte more, kept below 2 to the 32nd. Assumes nothing.
use mathlib.Core.Path.{refl}
use borrow.Author.Rules.{rules}
use Rattle.names.specs.code.Chains.{mixed_with}
use Rattle.names.proofs.mixed.Goals as goal

pub returns : goal.returns
unfolding mixed_with
returns c = (rw c.from.ensures refl, search rules)
