-- The whole rest is unreadable. Assumes nothing.
use Rattle.elements.specs.Element.{unreadable_front}
use mathlib.Core.Path.{refl}
use Rattle.elements.proofs.unreadable_at.Goals as goal

pub returns : goal.returns
unfolding unreadable_front
returns c = refl
