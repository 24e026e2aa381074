-- The test is the definition's own. Assumes nothing.
use Rattle.classes.specs.Bytes.{is_digit}
use mathlib.Core.Path.{refl}
use Rattle.classes.proofs.is_digit.Goals as goal

pub returns : goal.returns
unfolding is_digit
returns c = refl
