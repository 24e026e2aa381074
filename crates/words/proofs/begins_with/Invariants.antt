-- The invariant: whether the rest begins with the rest of the word is whether the whole does. Assumes nothing.
use Rattle.words.specs.Words.{begins}
use lib.ListN.{drop}
use mathlib.Core.Path.{◌≡◌}
use Rattle.words.proofs.begins_with.Given as goal

abbrev pub invariant-loop-i : goal.invariant-loop-i
invariant-loop-i l = begins (drop l.i l.w) (drop l.i l.t) ≡ begins l.w l.t
