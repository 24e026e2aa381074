-- The three ways of an extended identifier. Assumes nothing.
use Rattle.elements.proofs.Cases.{closed_fits, extended_open, extended_spoilt, extended_whole}
use Rattle.elements.proofs.extended_at.Goals as goal

pub overflow_add-m : goal.overflow_add-m
overflow_add-m c = search closed_fits

pub returns-then-spoils_extended : goal.returns-then-spoils_extended
returns-then-spoils_extended c = search extended_spoilt

pub returns-else-spoils_extended : goal.returns-else-spoils_extended
returns-else-spoils_extended c = search extended_whole

pub returns-in-None : goal.returns-in-None
returns-in-None c = search extended_open
