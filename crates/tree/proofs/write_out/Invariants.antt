-- `tree::write_out` meets its contract. What is stored, with what is left, is the whole; the measure is the rows and bases left. Assumes nothing.
use Prim.Native.Nat.{◌-◌, ◌+◌}
use mathlib.Core.Path.{◌≡◌}
use lib.ListN.{length}
use Rattle.tree.proofs.Writing.{Left}
use Rattle.tree.proofs.write_out.Given as goal

abbrev pub invariant-loop-out : goal.invariant-loop-out
invariant-loop-out l = (length l.tab ≡ length l.initial.tab) × Left l.cells l.next l.heads l.initial.tab l.tab l.used l.base l.link l.out

abbrev pub decreases-loop-out : goal.decreases-loop-out
decreases-loop-out l = l.used - l.out + (l.used - l.base)
