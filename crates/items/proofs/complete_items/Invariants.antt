-- The invariant: the table with the records left completed is the whole. Assumes nothing.
use mathlib.Core.Path.{◌≡◌}
use Prim.Native.Nat.{◌-◌}
use Rattle.items.specs.code.Items.{completed_from, completed}
use Rattle.items.proofs.complete_items.Given as goal

abbrev pub invariant-loop-i : goal.invariant-loop-i
invariant-loop-i l = completed_from l.text l.elements l.links l.twins l.rows l.items l.i (l.most - l.i) ≡ completed l.text l.elements l.links l.twins l.rows l.initial.items l.n
