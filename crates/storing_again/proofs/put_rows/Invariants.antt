-- The invariant: what was put at the place is the fields of the rows passed. Assumes nothing.
use Prim.Native.Nat.{ℕ}
use mathlib.Core.List.{List, [], map}
use Rattle.puts.specs.Puts.{Wrote}
use Rattle.stored.specs.StoredItems.{item_field}
use Rattle.stored_writing.specs.Written.{fields_put}
use Rattle.storing_again.specs.code.RowItems.{row_items}
use Rattle.storing_again.proofs.put_rows.Given as goal

abbrev pub invariant-loop-i : goal.invariant-loop-i
invariant-loop-i l = (t : List ℕ) → Wrote t l.at [] l.initial.out l.initial.w → Wrote t l.at (fields_put (map item_field (row_items l.bytes l.rows l.i))) l.out l.w
