-- The invariant: what was passed, with the run of the rest, is the run of the whole. Assumes nothing.
use mathlib.Core.Path.{◌≡◌}
use Rattle.classes.specs.Runs.{count_while, goes_on}
use lib.ListN.{drop}
use Prim.Native.Nat.{◌+◌}
use Rattle.classes.proofs.run_length.Given as goal

abbrev pub invariant-loop-i : goal.invariant-loop-i
invariant-loop-i l = l.i + count_while (goes_on l.c) (drop l.i l.s) ≡ count_while (goes_on l.c) l.s
