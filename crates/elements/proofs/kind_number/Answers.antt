-- Each kind by its own number. Assumes nothing.
use Rattle.elements.specs.Kinds.{kind_number}
use mathlib.Core.Path.{sym, ap}
use Rattle.elements.proofs.kind_number.Goals as goal

pub returns-in-Delimiter : goal.returns-in-Delimiter
returns-in-Delimiter c = sym (ap kind_number c.in-Delimiter.is)

pub returns-in-Reserved : goal.returns-in-Reserved
returns-in-Reserved c = sym (ap kind_number c.in-Reserved.is)
