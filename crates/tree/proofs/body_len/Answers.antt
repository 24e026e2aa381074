-- `tree::body_len` meets its contract. The part of the sizes has a byte to each rule. Assumes nothing.
use mathlib.Core.Path.{◌∙◌}
use native.Mathlib.Omega.{arith}
use Rattle.form_table.proofs.Tables.{forms_size}
use Rattle.form_table.proofs.Lines.{size_is}
use Rattle.tree.proofs.body_len.Goals as goal

pub bounds-forms-p : goal.bounds-forms-p
bounds-forms-p c = omega (arith, forms_size c.requires.0)

pub returns : goal.returns
returns c = c.from.ensures ∙ size_is c.requires.0 c.args.p c.requires.1
