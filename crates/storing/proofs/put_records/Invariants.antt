-- The invariant: what was put at the place is the fields of the records passed. Assumes nothing.
use Prim.Native.Nat.{ℕ}
use mathlib.Core.List.{List, []}
use Rattle.puts.specs.Puts.{Wrote}
use Rattle.storing.specs.code.Tables.{items_of_records, put_items}
use Rattle.storing.proofs.put_records.Given as goal

abbrev pub invariant-loop-i : goal.invariant-loop-i
invariant-loop-i l = (t : List ℕ) → Wrote t l.at [] l.initial.out l.initial.w → Wrote t l.at (put_items (items_of_records l.text l.elements l.items l.i)) l.out l.w
