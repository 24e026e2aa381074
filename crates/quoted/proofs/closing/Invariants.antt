-- The invariant: where it closes from here is where it closes. Two bytes may be passed at once, past the end too. Assumes nothing.
use Rattle.quoted.specs.Quoted.{closed_from}
use lib.ListN.{length, drop}
use Prim.Native.Nat.{◌-◌}
use mathlib.Core.Path.{◌≡◌}
use Rattle.quoted.proofs.closing.Given as goal

abbrev pub invariant-loop-n : goal.invariant-loop-n
invariant-loop-n l = closed_from l.quote l.n (drop l.n l.s) ≡ closed_from l.quote 0 l.s

abbrev pub decreases-loop-n : goal.decreases-loop-n
decreases-loop-n l = length l.s - l.n
