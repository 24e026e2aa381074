-- The invariant: the number so far, with the digits that are left, is the whole's. Assumes nothing.
use Rattle.arguments.specs.Arguments.{value_from, amount_of}
use lib.ListN.{drop}
use Prim.Native.Nat.{◌≤◌}
use mathlib.Core.Path.{◌≡◌}
use Rattle.arguments.proofs.value_of.Given as goal

abbrev pub invariant-loop-b : goal.invariant-loop-b
invariant-loop-b l = (l.v ≤ l.most) × (value_from l.most l.v (drop l.b-index l.s) ≡ amount_of l.most l.s)
