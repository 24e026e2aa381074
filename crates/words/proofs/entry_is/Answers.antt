-- As many bytes, and the same ones. Assumes nothing.
use borrow.Author.Tests.{eq-eqb, ne_eqb}
use Rattle.words.proofs.entry_is.Goals as goal

pub returns-then-n-w : goal.returns-then-n-w
returns-then-n-w c = simp (ne_eqb _ _ c.if-n-w.true)

pub returns : goal.returns
returns c = simp (eq-eqb _ _ c.if-n-w.false, ← c.begins_with.ensures)
