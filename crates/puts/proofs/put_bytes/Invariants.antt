-- The invariant: what was put at the place is the bytes passed. Assumes nothing.
use Prim.Native.Nat.{ℕ}
use mathlib.Core.List.{List, []}
use lib.ListN.{take}
use Rattle.puts.specs.Puts.{Wrote}
use Rattle.puts.proofs.put_bytes.Given as goal

abbrev pub invariant-loop-b : goal.invariant-loop-b
invariant-loop-b l = (t : List ℕ) → Wrote t l.at [] l.initial.out l.initial.w → Wrote t l.at (take l.b-index l.s) l.out l.w
