-- The bytes of the code are the reserved words, each after its length: antt computes it. Assumes nothing.
use Rattle.words.proofs.Laws.{packed, packed_place}
use Rattle.words.specs.Words.{reserved_words, bytes_of}
use mathlib.Core.Path.{◌∙◌}
use Rattle.words.proofs.reserved_word.Goals as goal

pub returns : goal.returns
unfolding packed bytes_of reserved_words
returns c = c.search.ensures ∙ packed_place 0 _ reserved_words
