-- The value and the name of the row. Assumes nothing.
use Rattle.storing_again.proofs.Puts.{row_put}
use Rattle.storing_again.proofs.put_row.Goals as goal

pub returns : goal.returns
returns c = search row_put
