-- A part of the table, or nothing. Assumes nothing.
use borrow.Author.Tests.{lt-ltb, le-ltb}
use Rattle.std.proofs.Common.{◌≡◌, ℕ, ◌≤◌, ◌/◌, List, [], length, arith}
use Rattle.std.proofs.Math.Nat.{div-zero}
use Rattle.puts.specs.Lines.{numbers_in_row}
use Rattle.puts.proofs.numbers_at.Goals as goal
use Rattle.puts.proofs.numbers_at.Goals.{else-width-ne0-via-then-width-ne0+else-i-table, else-width-ne0-via-else-width-ne0}

-- no row has no numbers
none_in : (table : List ℕ) (width i : ℕ) → length table / width ≤ i → ◌≡◌ {A = List ℕ} [] (numbers_in_row table width i)
unfolding numbers_in_row
none_in table width i h = rw (le-ltb i (length table / width) h)

none_wide : (table : List ℕ) (width i : ℕ) → width ≡ 0 → length table / width ≤ i
none_wide table width i e = rw (e, div-zero) (omega arith)

pub returns-then-i-table : goal.returns-then-i-table
unfolding numbers_in_row
returns-then-i-table c = rw (lt-ltb c.args.i (length c.args.table.now / c.args.width) c.if-i-table.true) c.words_from.ensures

pub returns : goal.returns
returns c =
    let t = c.args.table.now in
    none_in t c.args.width c.args.i
    (elim c.else-width-ne0.branch [ else-width-ne0-via-then-width-ne0+else-i-table w ↦ w.if-i-table.false | else-width-ne0-via-else-width-ne0 w ↦ none_wide t c.args.width c.args.i w.if-width-ne0.false ])
