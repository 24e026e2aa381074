-- What is put stays within the buffer. Assumes nothing.
use Rattle.std.proofs.Common.{length, ◌≤◌}
use Rattle.batch.proofs.print_hexadecimal.Given as goal

abbrev pub invariant-loop-b : goal.invariant-loop-b
invariant-loop-b l = l.w ≤ length l.out
