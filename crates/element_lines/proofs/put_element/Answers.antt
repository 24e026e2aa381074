-- The element's number, kind and places. Assumes nothing.
use Rattle.element_lines.proofs.Laws.{element_put}
use Rattle.element_lines.proofs.put_element.Goals as goal

pub returns : goal.returns
returns c = search element_put
