-- A comment, a form left out, or a delimiter. Assumes nothing.
use Rattle.elements.proofs.Cases.{other_comment, other_delimited, other_plain}
use Rattle.elements.proofs.other_at.Goals as goal

pub returns-then-b-d : goal.returns-then-b-d
returns-then-b-d c = search other_comment

pub returns-then-b-d-2 : goal.returns-then-b-d-2
returns-then-b-d-2 c = search other_delimited

pub returns : goal.returns
returns c = search other_plain
