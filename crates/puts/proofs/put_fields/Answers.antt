-- The invariant: what was put at the place is the fields of the words passed. Assumes nothing.
use borrow.Author.Rules.{rules}
use native.Mathlib.Omega.{arith}
use Rattle.puts.specs.Decimals.{fields_of}
use Rattle.puts.proofs.Laws.{same_size}
use Rattle.puts.proofs.Fields.{field_more, fields_all}
use Rattle.puts.proofs.put_fields.Goals as goal

pub loop-word-init : goal.loop-word-init
unfolding fields_of
loop-word-init c = λ t h. h

pub loop-word-preserved : goal.loop-word-preserved
loop-word-preserved c = λ t h. field_more c.args.words.now c.loop-word.word-index (omega arith) (c.loop-word.invariant t h) (search rules)

pub shape_of-out : goal.shape_of-out
shape_of-out c = same_size (c.loop-word.invariant _ c.put_none-w.ensures)

pub returns : goal.returns
returns c = fields_all _ c.loop-word.word-index (omega arith) (c.loop-word.invariant _ c.put_none-w.ensures)
