-- The invariant: the search from here, in the rest of the list, is the search in the whole. Assumes nothing.
use Rattle.words.specs.code.Packed.{searched}
use lib.ListN.{length, drop}
use Prim.Native.Nat.{◌-◌, ◌≤◌}
use mathlib.Core.Path.{◌≡◌}
use Rattle.words.proofs.search.Given as goal

abbrev pub invariant-loop-i : goal.invariant-loop-i
invariant-loop-i l = (l.k ≤ l.i) × (searched 0 l.k l.w (drop l.i l.list) ≡ searched 0 0 l.w l.list)

abbrev pub decreases-loop-i : goal.decreases-loop-i
decreases-loop-i l = length l.list - l.i
