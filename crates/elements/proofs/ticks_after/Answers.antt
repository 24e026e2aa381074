-- Each kind by its own answer. Assumes nothing.
use Rattle.elements.specs.Element.{ticks_after}
use mathlib.Core.Path.{sym, ap}
use Rattle.elements.proofs.ticks_after.Goals as goal

pub returns-in-Delimiter : goal.returns-in-Delimiter
returns-in-Delimiter c = sym (ap ticks_after c.in-Delimiter.is)
