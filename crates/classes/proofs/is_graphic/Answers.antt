-- The test is the definition's own. Assumes nothing.
use Rattle.classes.specs.Signs.{is_graphic}
use mathlib.Core.Path.{refl}
use Rattle.classes.proofs.is_graphic.Goals as goal

pub returns : goal.returns
unfolding is_graphic
returns c = refl
