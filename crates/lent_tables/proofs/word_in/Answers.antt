-- No such column, a word of a row, or no such row. Assumes nothing.
use Rattle.lent_tables.proofs.Rows.{word_there, no_column, no_row}
use Rattle.lent_tables.proofs.word_in.Goals as goal

pub returns-then-column : goal.returns-then-column
returns-then-column g c = no_column g.row.WIDTH c.args.table.now c.args.row c.args.column c.if-column.true

pub returns-then-row-table : goal.returns-then-row-table
returns-then-row-table g c = word_there g.row.WIDTH c.args.table.now c.args.row c.args.column c.if-column.false c.if-row-table.true

pub returns : goal.returns
returns g c = no_row g.row.WIDTH c.args.table.now c.args.row c.args.column c.if-column.false c.if-row-table.false
