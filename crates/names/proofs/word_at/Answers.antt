-- A word that is asked, or 0. Assumes nothing.
use mathlib.Core.Path.{refl}
use Rattle.names.proofs.Tables.{word_below, word_past}
use Rattle.names.proofs.word_at.Goals as goal

pub returns-then-i-n : goal.returns-then-i-n
returns-then-i-n c = word_below _ _ _ _ c.if-i-n.true refl

pub returns-else-i-n : goal.returns-else-i-n
returns-else-i-n c = word_past _ _ _ c.if-i-n.false
