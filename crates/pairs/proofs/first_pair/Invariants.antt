-- The invariants: no pair is found yet, and what the pieces left say, all say. Assumes nothing.
use mathlib.Core.Path.{◌≡◌}
use Prim.Native.Nat.{◌+◌, ◌-◌}
use Rattle.std.specs.Prelude.{None}
use Rattle.pairs.specs.code.Pairs.{same_number, later_of, pair_from, pair_of}
use Rattle.pairs.proofs.first_pair.Given as goal

abbrev pub invariant-loop-j : goal.invariant-loop-j
invariant-loop-j l =
    (l.pair ≡ None) × (pair_of l.owns l.n ≡ later_of (same_number l.owns) l.i l.j (l.end - l.j) (pair_from (same_number l.owns) (l.i + 1) (l.end - (l.i + 1))))

abbrev pub invariant-pairs : goal.invariant-pairs
invariant-pairs l = (l.pair ≡ None) × (pair_of l.owns l.n ≡ pair_from (same_number l.owns) l.i (l.end - l.i))
