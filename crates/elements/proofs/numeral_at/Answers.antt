-- The five ways of a number. Assumes nothing.
use Rattle.elements.proofs.Cases.{numeral_none, integer_spoilt, integer_whole, real_spoilt, real_whole}
use Rattle.elements.proofs.numeral_at.Goals as goal

pub returns-then-follows_none : goal.returns-then-follows_none
returns-then-follows_none c = search integer_spoilt

pub returns-then-follows_none-2 : goal.returns-then-follows_none-2
returns-then-follows_none-2 c = search real_spoilt

pub returns-else-follows_none : goal.returns-else-follows_none
returns-else-follows_none c = search integer_whole

pub returns-else-follows_none-2 : goal.returns-else-follows_none-2
returns-else-follows_none-2 c = search real_whole

pub returns-in-Neither : goal.returns-in-Neither
returns-in-Neither c = search numeral_none
