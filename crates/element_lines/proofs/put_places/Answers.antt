-- First byte and length. Assumes nothing.
use Rattle.element_lines.proofs.Laws.{places_put}
use Rattle.element_lines.proofs.put_places.Goals as goal

pub returns : goal.returns
returns c = search places_put
