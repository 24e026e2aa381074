-- The tables give the names back. Assumes nothing.
use Rattle.stored_reading.proofs.Names.{names_differ}
use Rattle.stored_reading.proofs.names_differ.Goals as goal

pub returns : goal.returns
returns c = search names_differ
