-- The sizes of the name, the items and the end. Assumes nothing.
use Rattle.storing.proofs.Puts.{table_fits, end_fits, table_size}
use Rattle.storing.proofs.table_size.Goals as goal

pub overflow_add-c : goal.overflow_add-c
overflow_add-c c = search table_fits

pub overflow_add-result : goal.overflow_add-result
overflow_add-result c = search end_fits

pub returns : goal.returns
returns c = search table_size
