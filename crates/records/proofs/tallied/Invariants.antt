-- The invariant: the counts so far, with those of the records left, are those of all. Assumes nothing.
use Rattle.records.proofs.Counting.{Counted}
use Rattle.records.proofs.tallied.Given as goal

abbrev pub invariant-loop-i : goal.invariant-loop-i
invariant-loop-i l = Counted l.items l.n l.i l.t.counts
