-- The invariant: whether the rest begins with the rest of the word is whether the whole does. Assumes nothing.
use Rattle.words.proofs.Laws.{begins_all, begins_short, begins_not, begins_more}
use mathlib.Core.Path.{refl}
use Rattle.words.proofs.begins_with.Goals as goal

pub loop-i-init : goal.loop-i-init
loop-i-init c = refl

pub returns-then-t-i : goal.returns-then-t-i
returns-then-t-i c = search begins_short

pub returns-then-lower_case-t : goal.returns-then-lower_case-t
returns-then-lower_case-t c = search begins_not

pub loop-i-preserved : goal.loop-i-preserved
loop-i-preserved c = let l = c.loop-i in
    let a = c.args in
    search (begins_more a.w.now a.t.now l.i)

pub returns : goal.returns
returns c = search begins_all
