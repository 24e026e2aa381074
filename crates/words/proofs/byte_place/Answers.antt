-- The invariant: the search from here is the search in the whole. Assumes nothing.
use Rattle.words.proofs.Laws.{byte_hit, byte_past, byte_end}
use native.Mathlib.Nat.{add-zero}
use Rattle.words.proofs.byte_place.Goals as goal

pub loop-i-init : goal.loop-i-init
loop-i-init c = rw add-zero

pub returns-then-x-b : goal.returns-then-x-b
returns-then-x-b c = search byte_hit

pub loop-i-preserved : goal.loop-i-preserved
loop-i-preserved c = search byte_past

pub returns : goal.returns
returns c = search byte_end
