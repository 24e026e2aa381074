-- The invariant: the rows so far, with those of the lines that are left, are the whole text's, in number and in the table. Assumes nothing.
use Rattle.element_reading.specs.Table.{puts}
use Rattle.element_reading.specs.Rows.{lines_of, lines_rows, rows_of}
use lib.ListN.{length, drop}
use Prim.Native.Nat.{◌+◌, ◌-◌, ◌≤◌}
use mathlib.Core.Path.{◌≡◌}
use Rattle.element_reading.proofs.read_lines.Given as goal

abbrev pub invariant-loop-at : goal.invariant-loop-at
invariant-loop-at l = (l.at ≤ length l.s + 1)
    × (l.n ≤ l.at)
    × (l.n + length (lines_rows l.at (lines_of (drop l.at l.s))) ≡ length (rows_of l.s))
    × (length l.t ≡ length l.initial.t)
    × (puts l.t l.n (lines_rows l.at (lines_of (drop l.at l.s))) ≡ puts l.initial.t 0 (rows_of l.s))

abbrev pub decreases-loop-at : goal.decreases-loop-at
decreases-loop-at l = length l.s - l.at
