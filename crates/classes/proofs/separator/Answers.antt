-- The test is the definition's own. Assumes nothing.
use Rattle.classes.specs.Signs.{separates}
use mathlib.Core.Path.{refl}
use Rattle.classes.proofs.separator.Goals as goal

pub returns : goal.returns
unfolding separates
returns c = refl
