-- Bytes past the text, too many of them, or those compared. Assumes nothing.
use Rattle.same_names.proofs.Spelling.{spelled_past, spelled_long, spelled_there}
use Rattle.same_names.proofs.spelled_as.Goals as goal

pub returns-then-text-first : goal.returns-then-text-first
returns-then-text-first c = search spelled_past

pub returns-then-text-first-2 : goal.returns-then-text-first-2
returns-then-text-first-2 c = search spelled_long

pub returns : goal.returns
returns c = search spelled_there
