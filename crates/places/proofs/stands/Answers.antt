-- `places::stands` meets its contract. The bytes stand in the text where the first does and the rest have room. Assumes nothing.
use Rattle.places.proofs.Laws.{stands_no, stands_if}
use Rattle.places.proofs.stands.Goals as goal

pub returns-then-size-first : goal.returns-then-size-first
returns-then-size-first c = stands_no c.args.s.now c.args.x.0 c.args.n c.if-size-first.true

pub returns : goal.returns
returns c = stands_if c.args.s.now c.args.x.0 c.args.n c.if-size-first.false
