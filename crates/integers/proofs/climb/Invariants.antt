-- The invariant: acc is a to the number of turns, and at most 2147483647 in size. Assumes nothing.
use mathlib.Core.Path.{◌≡◌}
use Prim.Native.Nat.{◌≤◌}
use lib.IntN.{nat_abs, pow}
use Rattle.integers.specs.Integers.{largest}
use Rattle.integers.proofs.climb.Given as goal

abbrev pub invariant-loop : goal.invariant-loop
invariant-loop l = (l.acc ≡ pow l.a l.counter) × (nat_abs (pow l.a l.counter) ≤ largest)
