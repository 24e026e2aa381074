-- The invariant: what is left of the search along the chain says what all records say. Assumes nothing.
use Rattle.names.specs.code.Links.{records_in}
use Rattle.names.proofs.Chaining.{left_of, Searching}
use Rattle.names.proofs.find.Given as goal

abbrev pub invariant-loop-h : goal.invariant-loop-h
invariant-loop-h l = Searching l.chains.text.now l.chains.elements.now l.chains.items.now l.e.0 l.h

abbrev pub decreases-loop-h : goal.decreases-loop-h
decreases-loop-h l = left_of (records_in l.chains.items.now) l.h
