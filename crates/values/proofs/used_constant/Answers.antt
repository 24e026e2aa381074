-- By the kind. Assumes nothing.
use mathlib.Core.Path.{ap}
use mir.Syntax.{w32}
use mir.ValLaws.{to_z-of_z}
use Rattle.values.specs.code.Used.{used_constant}
use Rattle.values.specs.declared.Value.TheVariants.{Number}
use Rattle.values.proofs.Steps.{constant_none}
use Rattle.values.proofs.used_constant.Goals as goal

pub returns-in-1 : goal.returns-in-1
unfolding used_constant
returns-in-1 c = rw (c.in-1.is, to_z-of_z w32 c.number.result (record { sfits = c.number.type_inv })) (ap Number c.number.ensures)

pub returns-in-2 : goal.returns-in-2
unfolding used_constant
returns-in-2 c = rw c.in-2.is

pub returns-in_default : goal.returns-in_default
returns-in_default c = let r = c.in_default.in_default-own.rest in constant_none c.args.kind c.args.low r.0.1 r.1
