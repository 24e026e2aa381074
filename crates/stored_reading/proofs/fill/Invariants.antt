-- The loop: the rows put with those from here are all. Assumes nothing.
use mathlib.Core.Path.{◌≡◌}
use mathlib.Core.Bool.{true}
use Prim.Native.Nat.{◌+◌, ◌*◌, ◌-◌, ◌≤◌}
use lib.ListN.{length, drop}
use lib.Seq.{sets}
use Rattle.stored.specs.Stored.{form_one}
use Rattle.stored_reading.specs.code.Turns.{items_at, there, items_counted}
use Rattle.stored_reading.specs.code.Answers.{rows_at}
use Rattle.stored_reading.proofs.fill.Given as goal

abbrev pub invariant-loop-at : goal.invariant-loop-at
invariant-loop-at l = (there (items_at form_one (drop l.at l.s)) ≡ true) × ((length l.t ≡ length l.initial.t) × ((l.w + 6 * items_counted (items_at form_one (drop l.at l.s)) ≤ length l.initial.t) × (sets l.t l.w (rows_at l.at (items_at form_one (drop l.at l.s))) ≡ sets l.initial.t 0 (rows_at l.initial.at (items_at form_one (drop l.initial.at l.s))))))

abbrev pub decreases-loop-at : goal.decreases-loop-at
decreases-loop-at l = length l.s - l.at
