-- The invariant: what was put at the place is the bytes passed, as they are stored. Assumes nothing.
use Prim.Native.Nat.{ℕ}
use mathlib.Core.List.{List, []}
use lib.ListN.{take}
use Rattle.puts.specs.Puts.{Wrote}
use Rattle.stored_writing.specs.Written.{as_stored}
use Rattle.stored_writing.proofs.put_name.Given as goal

abbrev pub invariant-loop-b : goal.invariant-loop-b
invariant-loop-b l = (t : List ℕ) → Wrote t l.at [] l.initial.out l.initial.w → Wrote t l.at (as_stored l.basic (take l.b-index l.name)) l.out l.w
