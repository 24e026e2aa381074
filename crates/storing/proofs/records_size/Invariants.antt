-- The invariant: the size so far is that of the records passed. Assumes nothing.
use mathlib.Core.Path.{◌≡◌}
use Rattle.storing.specs.code.Tables.{items_of_records, size_items}
use Rattle.storing.proofs.records_size.Given as goal

abbrev pub invariant-loop-i : goal.invariant-loop-i
invariant-loop-i l = l.size ≡ size_items (items_of_records l.text l.elements l.items l.i)
