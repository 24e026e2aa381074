-- The invariant: the table, with the records of the rest stored after, is the table with all of them. Assumes nothing.
use Rattle.pieces.specs.Columns.{record_words}
use Prim.Native.Nat.{◌-◌, ◌≤◌, ◌+◌, ◌*◌}
use mathlib.Core.Path.{◌≡◌}
use lib.ListN.{length, drop}
use lib.Seq.{sets}
use Rattle.pieces.specs.Kinds.{kind_pieces}
use Rattle.places.specs.Places.{kinds_of}
use Rattle.pieces.specs.Records.{pending_records}
use Rattle.pieces.proofs.write_records.Given as goal

abbrev pub invariant-loop-at : goal.invariant-loop-at
invariant-loop-at l = (l.at ≤ l.n) × (l.w + record_words * length (kind_pieces (drop l.at (kinds_of l.n l.elements))) ≤ length l.items) × (length l.items ≡ length l.initial.items) × (sets l.items l.w (pending_records l.at (kind_pieces (drop l.at (kinds_of l.n l.elements)))) ≡ sets l.initial.items 0 (pending_records 0 (kind_pieces (kinds_of l.n l.elements))))

abbrev pub decreases-loop-at : goal.decreases-loop-at
decreases-loop-at l = l.n - l.at
