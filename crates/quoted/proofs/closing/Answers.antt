-- The invariant: where it closes from here is where it closes. Two bytes may be passed at once, past the end too. Assumes nothing.
use Rattle.quoted.proofs.Laws.{turn_doubled, turn_inside, turn_closes, turn_breaks, turns_end}
use mathlib.Core.Path.{refl}
use Rattle.quoted.proofs.closing.Goals as goal

pub loop-n-init : goal.loop-n-init
loop-n-init c = refl

pub loop-n-preserved-in-Doubled : goal.loop-n-preserved-in-Doubled
loop-n-preserved-in-Doubled c = search turn_doubled

pub returns-in-Closes : goal.returns-in-Closes
returns-in-Closes c = search turn_closes

pub loop-n-preserved : goal.loop-n-preserved
loop-n-preserved c = search turn_inside

pub returns-in-Breaks : goal.returns-in-Breaks
returns-in-Breaks c = search turn_breaks

pub returns : goal.returns
returns c = search turns_end
