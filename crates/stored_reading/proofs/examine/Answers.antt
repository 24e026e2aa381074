-- The name, the items, their count and their names, in this order. Assumes nothing.
use Rattle.stored_reading.proofs.Whole.{found_three, tally_there, tally_count, found_none, found_tag, found_name, found_broken, found_many, found_doubled, found_whole}
use native.Mathlib.Omega.{arith}
use Rattle.stored_reading.proofs.examine.Goals as goal

pub returns-then-t-ne-NAME_TAG : goal.returns-then-t-ne-NAME_TAG
returns-then-t-ne-NAME_TAG c = search found_tag

pub overflow_add-from : goal.overflow_add-from
overflow_add-from c = search found_three

pub returns-then-c-gt-MOST_ITEMS : goal.returns-then-c-gt-MOST_ITEMS
returns-then-c-gt-MOST_ITEMS c = search (found_many, c.in_ok-c.was)

pub names_differ-requires : goal.names_differ-requires
names_differ-requires c = record { s_value = search (tally_there, c.in_ok-c.was); n_value = (search (tally_count, c.in_ok-c.was), omega arith) }

pub returns-then-names_differ : goal.returns-then-names_differ
returns-then-names_differ c = search (found_whole, c.in_ok-c.was)

pub returns-in_default : goal.returns-in_default
returns-in_default c = found_none _ _ c.in_default.not-Tagged c.step_of.ensures

pub returns-in_err-c : goal.returns-in_err-c
returns-in_err-c c = rw c.from_residual.ensures (search (found_broken, c.in_err-c.was))

pub returns : goal.returns
returns c = search (found_doubled, c.in_ok-c.was)

pub returns-then-not-legal_name : goal.returns-then-not-legal_name
returns-then-not-legal_name c = search found_name
