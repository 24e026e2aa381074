-- The outcome, settled. Assumes nothing.
use mathlib.Core.Path.{ap, ◌∙◌}
use Rattle.folding.specs.code.Outcomes.{settled_of}
use Rattle.expressions.specs.Folds.{folded_of}
use Rattle.expressions.proofs.folded.Goals as goal

pub returns : goal.returns
unfolding folded_of
returns c = c.settled.ensures ∙ ap settled_of c.fold-outcome.ensures
