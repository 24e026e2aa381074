-- The invariant: what is left of the search along the chain says what all records say. Assumes nothing.
use mathlib.Core.Path.{refl}
use borrow.Author.Rules.{rules}
use Rattle.names.proofs.Chaining.{search_start, search_place, search_short, search_less, search_found, search_on, search_done}
use Rattle.names.proofs.find.Goals as goal

pub loop-h-init : goal.loop-h-init
loop-h-init c = search_start _ _ _ _ _ _ c.args.chains.now.chained _ c.bucket.ensures.0 c.bucket.ensures.1

pub returns-then-same_name : goal.returns-then-same_name
returns-then-same_name c = search_found _ _ _ _ _ _ c.args.chains.now.chained _ _ c.loop-h.invariant c.loop-h-test.true refl _ _ c.word.ensures c.same_name.ensures c.if-same_name.true

pub offset_bounds-chains-j : goal.offset_bounds-chains-j
offset_bounds-chains-j c = let h = search_place _ _ _ _ _ _ c.args.chains.now.chained _ _ c.loop-h.invariant c.loop-h-test.true refl in
    let g = search_short c.args.chains.now.items.now _ h in search rules

pub bounds-chains-j : goal.bounds-chains-j
bounds-chains-j c = search_short c.args.chains.now.items.now _ (search_place _ _ _ _ _ _ c.args.chains.now.chained _ _ c.loop-h.invariant c.loop-h-test.true refl)

pub loop-h-smaller : goal.loop-h-smaller
loop-h-smaller c = search_less _ _ _ _ _ _ c.args.chains.now.chained _ _ c.loop-h.invariant c.loop-h-test.true refl

pub loop-h-preserved : goal.loop-h-preserved
loop-h-preserved c = search_on _ _ _ _ _ _ c.args.chains.now.chained _ _ c.loop-h.invariant c.loop-h-test.true refl _ _ c.word.ensures c.same_name.ensures c.if-same_name.false

pub returns : goal.returns
returns c = search_done _ _ _ _ _ c.loop-h.invariant c.loop-h-test.false
