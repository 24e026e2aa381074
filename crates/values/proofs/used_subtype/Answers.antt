-- By the kind. Assumes nothing.
use mathlib.Core.Path.{ap₂}
use mir.Syntax.{w32}
use mir.ValLaws.{to_z-of_z}
use Rattle.values.specs.code.Used.{used_subtype}
use Rattle.values.specs.declared.Value.TheVariants.{Range}
use Rattle.values.proofs.Steps.{subtype_none}
use Rattle.values.proofs.used_subtype.Goals as goal

pub returns-in-1 : goal.returns-in-1
unfolding used_subtype
returns-in-1 c = let a = c.number in
    let b = c.number-in-1 in
    rw (c.in-1.is, to_z-of_z w32 a.result (record { sfits = a.type_inv }), to_z-of_z w32 b.result (record { sfits = b.type_inv })) (ap₂ Range a.ensures b.ensures)

pub returns-in-2 : goal.returns-in-2
unfolding used_subtype
returns-in-2 c = rw c.in-2.is

pub returns-in_default : goal.returns-in_default
returns-in_default c = let r = c.in_default.in_default-own.rest in subtype_none c.args.kind c.args.low c.args.high r.0.1 r.1
