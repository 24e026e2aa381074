-- The four ways of a word. Assumes nothing.
use Rattle.elements.proofs.Cases.{reserved_fits, word_part, word_broken, word_reserved, word_quote, word_name}
use lib.Seq.{length-take-le}
use mathlib.Core.Path.{sym}
use Rattle.elements.proofs.word_at.Goals as goal

pub returns-then-next-eq95 : goal.returns-then-next-eq95
returns-then-next-eq95 c = search word_broken

pub slice_bounds-reserved_word-end : goal.slice_bounds-reserved_word-end
slice_bounds-reserved_word-end c = sym (length-take-le _ _ (search word_part))

pub overflow_cast-result : goal.overflow_cast-result
overflow_cast-result c = search reserved_fits

pub returns-then-next-eq34 : goal.returns-then-next-eq34
returns-then-next-eq34 c = search word_quote

pub returns-in-Some : goal.returns-in-Some
returns-in-Some c = search word_reserved

pub returns-else-next-eq34 : goal.returns-else-next-eq34
returns-else-next-eq34 c = search word_name
