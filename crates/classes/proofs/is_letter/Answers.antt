-- The test is the definition's own. Assumes nothing.
use Rattle.classes.specs.Bytes.{is_letter}
use mathlib.Core.Path.{refl}
use Rattle.classes.proofs.is_letter.Goals as goal

pub returns : goal.returns
unfolding is_letter
returns c = refl
