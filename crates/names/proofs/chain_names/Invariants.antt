-- The invariant: the records from the i-th on are chained. Assumes nothing.
use mathlib.Core.Path.{◌≡◌}
use lib.ListN.{length}
use Rattle.places.specs.Sizes.{most_pieces}
use Rattle.names.specs.code.Chains.{in_bucket, Chained, buckets}
use Rattle.names.proofs.chain_names.Given as goal

abbrev pub invariant-loop-i : goal.invariant-loop-i
invariant-loop-i l = (length l.heads ≡ buckets) × (length l.next ≡ most_pieces) × Chained (in_bucket l.text l.elements l.items) l.n l.i l.heads l.next
