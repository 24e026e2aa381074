-- The invariant: the rows so far are written. Assumes nothing.
use Rattle.names.specs.code.Links.{link_of, up_to}
use Rattle.names.proofs.Tables.{Written}
use Rattle.names.proofs.write_links.Given as goal

abbrev pub invariant-loop-e : goal.invariant-loop-e
invariant-loop-e l = Written (up_to (link_of l.chains.text.now l.chains.elements.now l.chains.items.now) l.rows) l.links l.e
