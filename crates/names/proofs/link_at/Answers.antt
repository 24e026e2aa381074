-- A row that is asked and is a name, or none. Assumes nothing.
use Rattle.names.proofs.Tables.{word_below, word_past}
use Rattle.names.proofs.Chaining.{link_not}
use Rattle.names.proofs.link_at.Goals as goal

pub returns-then-kind : goal.returns-then-kind
returns-then-kind c = search word_below

pub returns-else-kind : goal.returns-else-kind
returns-else-kind c = search link_not

pub returns-else-e-rows : goal.returns-else-e-rows
returns-else-e-rows c = search word_past
