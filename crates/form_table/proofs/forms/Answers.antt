-- `form_table::forms` meets its contract. The byte string is the table of the forms, by computing. Assumes nothing.
use borrow.Author.Rules.{rules}
use Rattle.form_table.specs.code.FormBytes.{form_bytes}
use Rattle.form_table.proofs.forms.Goals as goal

pub returns : goal.returns
unfolding form_bytes
returns c = search rules
