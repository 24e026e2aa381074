-- The invariant: the rows so far, with those of the rest of the line, are the whole line's, in number and in the table. Assumes nothing.
use Rattle.element_reading.specs.Table.{puts}
use Rattle.element_reading.specs.Rows.{line_rows}
use lib.ListN.{length, drop}
use Prim.Native.Nat.{◌+◌, ◌-◌, ◌≤◌}
use mathlib.Core.Bool.{false}
use mathlib.Core.Path.{◌≡◌}
use Rattle.element_reading.proofs.read_line.Given as goal

abbrev pub invariant-loop-i : goal.invariant-loop-i
invariant-loop-i l = (l.i ≤ length l.l)
    × (l.n ≤ l.from + l.i)
    × (l.n + length (line_rows 0 (l.from + l.i) l.ticks (drop l.i l.l)) ≡ l.first + length (line_rows 0 l.from false l.l))
    × (length l.t ≡ length l.initial.t)
    × (puts l.t l.n (line_rows 0 (l.from + l.i) l.ticks (drop l.i l.l)) ≡ puts l.initial.t l.first (line_rows 0 l.from false l.l))

abbrev pub decreases-loop-i : goal.decreases-loop-i
decreases-loop-i l = length l.l - l.i
