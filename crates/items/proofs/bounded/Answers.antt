-- With a range or none. Assumes nothing.
use Rattle.items.proofs.Laws.{unbounded, ranged}
use native.Mathlib.Omega.{arith}
use Rattle.items.proofs.Laws.{range_le}
use Rattle.items.proofs.bounded.Goals as goal

pub returns-then-m-eq-AFTER_MARK : goal.returns-then-m-eq-AFTER_MARK
returns-then-m-eq-AFTER_MARK c = search unbounded

pub expression-y-requires : goal.expression-y-requires
expression-y-requires c = (omega (arith, c.requires.0), range_le c.args.items.now c.args.rows.now c.args.i c.args.m _ c.second_bound-b.ensures, c.requires.1)

pub returns : goal.returns
returns c = search ranged
