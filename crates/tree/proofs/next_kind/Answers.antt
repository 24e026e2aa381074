-- `tree::next_kind` meets its contract. The next element by its row of the element table, 0 at the end. Assumes nothing.
use mathlib.Core.Path.{◌∙◌}
use native.Mathlib.Omega.{arith}
use Rattle.forms.specs.code.Kinds.{number_of, other}
use Rattle.form_table.proofs.Tables.{forms_size, kind_at, kind_past}
use Rattle.tree.proofs.Lists.{terminals_at, terminals_end}
use Rattle.tree.proofs.next_kind.Goals as goal

pub returns-then-count-e : goal.returns-then-count-e
returns-then-count-e c = terminals_end c.args.count c.args.elements.now c.args.e.0 c.if-count-e.true

pub bounds-forms-kind : goal.bounds-forms-kind
bounds-forms-kind c = omega (arith, forms_size c.requires.0)

pub returns-then-kind : goal.returns-then-kind
returns-then-kind c = terminals_at c.args.count c.args.elements.now c.args.e.0 c.kind_of-kind.result c.from.result c.requires.1 c.if-count-e.false c.kind_of-kind.ensures
    (c.from.ensures ∙ kind_at c.requires.0 c.kind_of-kind.result c.if-kind.true)

pub returns : goal.returns
returns c = terminals_at c.args.count c.args.elements.now c.args.e.0 c.kind_of-kind.result (number_of other) c.requires.1 c.if-count-e.false c.kind_of-kind.ensures
    (kind_past c.kind_of-kind.result c.if-kind.false)
