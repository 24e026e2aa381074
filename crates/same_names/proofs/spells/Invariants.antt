-- The invariant: what the bytes left say, all say. Assumes nothing.
use mathlib.Core.Path.{◌≡◌}
use lib.ListN.{length, drop}
use Rattle.same_names.specs.Spelling.{spelt}
use Rattle.same_names.proofs.spells.Given as goal

abbrev pub invariant-loop-i : goal.invariant-loop-i
invariant-loop-i l = (length l.a ≡ length l.b) × (spelt l.basic (drop l.i l.a) (drop l.i l.b) ≡ spelt l.basic l.a l.b)
