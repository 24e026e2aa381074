-- The invariant: the search from here is the search from the first element. Assumes nothing.
use Rattle.places.specs.Places.{kinds_of}
use Rattle.strict_reading.specs.code.Strict.{unreadable_from}
use lib.ListN.{drop}
use mathlib.Core.Path.{◌≡◌}
use Rattle.strict_reading.proofs.first_unreadable.Given as goal

abbrev pub invariant-loop-i : goal.invariant-loop-i
invariant-loop-i l = unreadable_from l.i (drop l.i (kinds_of l.count l.elements)) ≡ unreadable_from 0 (kinds_of l.count l.elements)
