-- The name, the items and the end in a row. Assumes nothing.
use Rattle.storing.proofs.Puts.{table_put_lem}
use Rattle.storing.proofs.put_table.Goals as goal

pub returns : goal.returns
returns c = search table_put_lem
