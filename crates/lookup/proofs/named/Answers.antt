-- A basic name, an extended one, or none. Assumes nothing.
use Rattle.lookup.proofs.Laws.{named_basic, named_extended, named_neither}
use Rattle.lookup.proofs.named.Goals as goal

pub returns-in-1 : goal.returns-in-1
returns-in-1 c = search named_basic

pub returns-in-2 : goal.returns-in-2
returns-in-2 c = search named_extended

pub returns-in_default : goal.returns-in_default
returns-in_default c = search named_neither
