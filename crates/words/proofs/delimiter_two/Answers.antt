-- The bytes of the code are the delimiters of two bytes: antt computes it. Assumes nothing.
use Rattle.words.proofs.Laws.{packed, pairs, packed_place, pair_place, pair_none}
use Rattle.words.specs.Words.{bytes_of}
use mathlib.Core.Path.{◌∙◌}
use Rattle.words.proofs.delimiter_two.Goals as goal

pub returns-then-d : goal.returns-then-d
unfolding packed bytes_of
returns-then-d c = c.search.ensures ∙ packed_place 0 _ pairs ∙ pair_place _ _

pub returns : goal.returns
returns c = pair_none _ _ c.if-d.false
