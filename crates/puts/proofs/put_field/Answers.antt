-- A space and the number. Assumes nothing.
use Rattle.puts.proofs.Fields.{field_put_lem}
use Rattle.puts.proofs.put_field.Goals as goal

pub returns : goal.returns
returns c = search field_put_lem
