-- The words of the row. Assumes nothing.
use Rattle.stored_reading.proofs.Cases.{row_put}
use Rattle.stored_reading.proofs.put_item.Goals as goal

pub returns : goal.returns
returns c = search row_put
