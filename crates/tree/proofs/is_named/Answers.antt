-- `tree::is_named` meets its contract. A frame with no name has none like it. Assumes nothing.
use Rattle.same_names.specs.Alike.{same_name}
use Rattle.tree.proofs.Acts.{nameless, named_by}
use Rattle.tree.proofs.is_named.Goals as goal

pub returns-then-n-eq0 : goal.returns-then-n-eq0
returns-then-n-eq0 c = nameless (same_name c.args.text.now c.args.elements.now) _ c.args.k c.if-n-eq0.true

pub returns : goal.returns
returns c = named_by (same_name c.args.text.now c.args.elements.now) _ c.args.k c.last_read.result.0 c.same_name.result c.if-n-eq0.false c.last_read.ensures c.same_name.ensures
