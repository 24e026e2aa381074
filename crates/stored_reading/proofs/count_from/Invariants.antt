-- The loop: those counted with those from here are all. Assumes nothing.
use mathlib.Core.Path.{◌≡◌}
use Prim.Native.Nat.{◌-◌, ◌≤◌}
use lib.ListN.{length, drop}
use Rattle.stored.specs.Stored.{form_one}
use Rattle.stored_reading.specs.code.Turns.{items_at, count_with}
use Rattle.stored_reading.proofs.count_from.Given as goal

abbrev pub invariant-loop-at : goal.invariant-loop-at
invariant-loop-at l = (l.n ≤ l.at) × (count_with l.n (items_at form_one (drop l.at l.s)) ≡ count_with 0 (items_at form_one (drop l.initial.at l.s)))

abbrev pub decreases-loop-at : goal.decreases-loop-at
decreases-loop-at l = length l.s - l.at
