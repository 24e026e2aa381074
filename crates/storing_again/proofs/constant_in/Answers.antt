-- By the kind. Assumes nothing.
use mathlib.Core.Path.{ap}
use mir.Syntax.{w32}
use mir.ValLaws.{to_z-of_z}
use borrow.Author.Tests.{eq-eqb, ne_eqb}
use Rattle.integers.specs.FoldedNumbers.{integer_kind}
use Rattle.stored.specs.declared.StoredValue.TheVariants.{Number}
use Rattle.storing_again.specs.code.RowItems.{row_constant}
use Rattle.storing_again.proofs.constant_in.Goals as goal

pub returns-then-kind-eq-KIND_INTEGER : goal.returns-then-kind-eq-KIND_INTEGER
unfolding row_constant
returns-then-kind-eq-KIND_INTEGER c = rw (eq-eqb c.args.kind integer_kind c.if-kind-eq-KIND_INTEGER.true, to_z-of_z w32 c.number.result (record { sfits = c.number.type_inv })) (ap Number c.number.ensures)

pub returns : goal.returns
unfolding row_constant
returns c = rw (ne_eqb c.args.kind integer_kind c.if-kind-eq-KIND_INTEGER.false)
