-- A divisor of 0 stops; any other divides. Assumes nothing.
use borrow.Author.Rules.{rules}
use mir.Syntax.{w64}
use mir.Val.{SFits}
use Rattle.integers.proofs.Ints.{rem_fits}
use Rattle.integers.specs.Integers.{divided_of}
use Rattle.integers.proofs.modulo.Goals as goal

pub returns-in-0 : goal.returns-in-0
unfolding divided_of
returns-in-0 c = search rules

pub returns-in_default : goal.returns-in_default
unfolding divided_of
returns-in_default c = let f = rem_fits c.args.a c.args.b c.ranges.a in
    let g : SFits w64 c.signed_as.result = record { sfits = c.signed_as.type_inv } in
    search rules
