-- `places::rows_from` meets its contract. The rest of the table, or nothing where there is no such row. Assumes nothing.
use Rattle.places.proofs.Laws.{rest_of, nothing_past}
use Rattle.places.proofs.rows_from.Goals as goal

pub returns-then-i-table : goal.returns-then-i-table
returns-then-i-table c = rest_of c.args.table.now c.args.e.0

pub returns : goal.returns
returns c = nothing_past c.args.table.now c.args.e.0 c.if-i-table.false
