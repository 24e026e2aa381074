-- Zeros first, then the two refusals, then the records. Assumes nothing.
use Rattle.pieces.proofs.Table.{too_many, too_short, marked, table_many, table_short_lem, table_marked}
use Rattle.pieces.proofs.record_pieces.Goals as goal

pub returns-then-pieces-gt-MOST_PIECES : goal.returns-then-pieces-gt-MOST_PIECES
returns-then-pieces-gt-MOST_PIECES c = record { value = search too_many; after = search table_many }

pub returns-then-rows-pieces : goal.returns-then-rows-pieces
returns-then-rows-pieces c = record { value = search too_short; after = search table_short_lem }

pub returns : goal.returns
returns c = record { value = search marked; after = search table_marked }
