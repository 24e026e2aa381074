-- The invariant: the records so far are marked. Assumes nothing.
use mathlib.Core.Path.{◌≡◌}
use lib.ListN.{length}
use Rattle.places.specs.Sizes.{most_pieces}
use Rattle.names.specs.code.Chains.{Flagging}
use Rattle.names.proofs.find_twins.Given as goal

abbrev pub invariant-loop-i : goal.invariant-loop-i
invariant-loop-i l = (length l.flags ≡ most_pieces) × Flagging l.own l.n l.i l.flags l.any
