-- The invariant: the numbers so far are written. Assumes nothing.
use mathlib.Core.Path.{◌≡◌}
use lib.ListN.{length}
use Rattle.places.specs.Sizes.{most_pieces}
use Rattle.names.specs.code.Links.{own_of}
use Rattle.names.proofs.Tables.{Written}
use Rattle.names.proofs.own_links.Given as goal

abbrev pub invariant-loop-i : goal.invariant-loop-i
invariant-loop-i l = (length l.own ≡ most_pieces) × Written (own_of l.chains.text.now l.chains.elements.now l.chains.items.now) l.own l.i
