-- The test is the definition's own. Assumes nothing.
use Rattle.classes.specs.Signs.{ends_line}
use mathlib.Core.Path.{refl}
use Rattle.classes.proofs.ends_line.Goals as goal

pub returns : goal.returns
unfolding ends_line
returns c = refl
