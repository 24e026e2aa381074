-- By the kind. Assumes nothing.
use mathlib.Core.Path.{ap₂}
use mir.Syntax.{w32}
use mir.ValLaws.{to_z-of_z}
use borrow.Author.Tests.{eq-eqb, ne_eqb}
use Rattle.integers.specs.FoldedNumbers.{integer_kind}
use Rattle.stored.specs.declared.StoredValue.TheVariants.{Range}
use Rattle.storing_again.specs.code.RowItems.{row_subtype}
use Rattle.storing_again.proofs.subtype_in.Goals as goal

pub returns-then-kind-eq-KIND_INTEGER : goal.returns-then-kind-eq-KIND_INTEGER
unfolding row_subtype
returns-then-kind-eq-KIND_INTEGER c = let a = c.number in
    let b = c.number-then-kind-eq-KIND_INTEGER in
    rw (eq-eqb c.args.kind integer_kind c.if-kind-eq-KIND_INTEGER.true, to_z-of_z w32 a.result (record { sfits = a.type_inv }), to_z-of_z w32 b.result (record { sfits = b.type_inv })) (ap₂ Range a.ensures b.ensures)

pub returns : goal.returns
unfolding row_subtype
returns c = rw (ne_eqb c.args.kind integer_kind c.if-kind-eq-KIND_INTEGER.false)
