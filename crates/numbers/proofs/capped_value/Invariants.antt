-- The invariant: the value, with the rest of the digits after it, is the value of the whole, each capped. Assumes nothing.
use Rattle.numbers.specs.Digits.{value_spelled}
use lib.ListN.{drop}
use Prim.Native.Nat.{◌≤◌, min}
use mathlib.Core.Path.{◌≡◌}
use Rattle.numbers.proofs.capped_value.Given as goal

abbrev pub invariant-loop-b : goal.invariant-loop-b
invariant-loop-b l = (l.v ≤ l.most) × (min l.most (value_spelled l.base l.v (drop l.b-index l.s)) ≡ min l.most (value_spelled l.base 0 l.s))
