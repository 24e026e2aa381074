-- The bytes of the code are the delimiters of one byte: antt computes it. Assumes nothing.
use Rattle.words.proofs.Laws.{singles, plain_place, single_place}
use Rattle.words.specs.Words.{bytes_of}
use Rattle.classes.specs.Bytes.{is_letter}
use mathlib.Core.Path.{refl, ◌∙◌}
use Rattle.words.proofs.delimiter_one.Goals as goal

pub returns : goal.returns
unfolding bytes_of is_letter
returns c = c.byte_place.ensures ∙ plain_place singles 7 _ refl ∙ single_place _
