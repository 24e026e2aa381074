-- The invariant: the words so far are written. Assumes nothing.
use Prim.Native.Nat.{ℕ}
use lib.ListN.{get_or}
use Rattle.names.specs.code.Links.{up_to}
use Rattle.names.proofs.Tables.{Written}
use Rattle.names.proofs.write_words.Given as goal

abbrev pub invariant-loop-i : goal.invariant-loop-i
invariant-loop-i l = Written (up_to (λ (k : ℕ). get_or l.from k 0) l.n) l.to l.i
