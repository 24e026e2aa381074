-- The invariant: the product so far, which is not too large. Assumes nothing.
use Rattle.integers.specs.Integers.{largest}
use Prim.Native.Nat.{◌≤◌, ◌*◌, ◌^◌}
use mathlib.Core.Path.{◌≡◌}
use Rattle.literals.proofs.scaled.Given as goal

abbrev pub invariant-loop-turn : goal.invariant-loop-turn
invariant-loop-turn l = (l.acc ≡ l.m * l.base ^ l._turn) × (l.acc ≤ largest)
