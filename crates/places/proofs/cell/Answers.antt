-- `places::cell` meets its contract. A word of a row of the element table's width. Assumes nothing.
use mathlib.Core.Path.{◌∙◌}
use Rattle.places.proofs.Laws.{cell_is}
use Rattle.places.proofs.cell.Goals as goal

pub returns : goal.returns
returns c = c.word_in.ensures ∙ cell_is c.args.table.now c.args.i c.args.j c.requires
