-- The invariant: the lines so far stand in the buffer, each whole, and as many of the rest fit as are still to come. Assumes nothing.
use Rattle.std.proofs.Common.{◌≤◌, max}
use Rattle.puts.proofs.Lines.{SoFar}
use Rattle.puts.proofs.fill.Given as goal

abbrev pub invariant-loop-i : goal.invariant-loop-i
invariant-loop-i g l = record {
  within : l.i ≤ max l.to l.from;
  so_far : SoFar (g.L.Listing.line l.listing) l.from l.to l.initial.out l.i l.out l.w;
}
