-- The four ways of an apostrophe. Assumes nothing.
use Rattle.elements.proofs.Cases.{tick_after, tick_alone, character_whole, character_broken}
use Rattle.elements.proofs.apostrophe_at.Goals as goal

pub returns-then-ticks : goal.returns-then-ticks
returns-then-ticks c = search tick_after

pub returns-then-byte_or-ne39 : goal.returns-then-byte_or-ne39
returns-then-byte_or-ne39 c = search tick_alone

pub returns-then-is_graphic : goal.returns-then-is_graphic
returns-then-is_graphic c = search character_whole

pub returns : goal.returns
returns c = search character_broken
