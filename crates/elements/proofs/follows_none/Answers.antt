-- The tests are the definition's own. Assumes nothing.
use Rattle.elements.specs.Element.{spoils_number}
use Rattle.elements.proofs.follows_none.Goals as goal

pub returns : goal.returns
unfolding spoils_number
returns c = simp (← c.is_letter.ensures, ← c.is_digit.ensures)
