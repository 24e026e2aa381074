-- The loop: the places and lengths put with those from here are all. Assumes nothing.
use mathlib.Core.Path.{◌≡◌}
use mathlib.Core.Bool.{true}
use Prim.Native.Nat.{◌+◌, ◌-◌, ◌≤◌}
use lib.ListN.{length, drop}
use lib.Seq.{sets}
use Rattle.stored.specs.Stored.{form_one}
use Rattle.stored_reading.specs.code.Turns.{items_at, there, items_counted}
use Rattle.stored_reading.specs.code.Answers.{firsts_at, sizes_at}
use Rattle.stored_reading.proofs.note_names.Given as goal

abbrev pub invariant-loop-at : goal.invariant-loop-at
invariant-loop-at l = (there (items_at form_one (drop l.at l.s)) ≡ true) × ((l.w + items_counted (items_at form_one (drop l.at l.s)) ≤ 1024) × ((sets l.firsts l.w (firsts_at l.at (items_at form_one (drop l.at l.s))) ≡ sets l.initial.firsts 0 (firsts_at l.initial.at (items_at form_one (drop l.initial.at l.s)))) × (sets l.sizes l.w (sizes_at (items_at form_one (drop l.at l.s))) ≡ sets l.initial.sizes 0 (sizes_at (items_at form_one (drop l.initial.at l.s))))))

abbrev pub decreases-loop-at : goal.decreases-loop-at
decreases-loop-at l = length l.s - l.at
