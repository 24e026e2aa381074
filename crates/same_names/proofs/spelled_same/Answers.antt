-- `same_names::spelled_same` meets its contract. Sizes, places and bytes, in that order, as the definition goes. Assumes nothing.
use Rattle.laws.proofs.Laws.{both_left, both_right}
use Rattle.same_names.proofs.Laws.{spelled_size, spelled_out, spelled_in}
use Rattle.places.proofs.Laws.{within_is}
use Rattle.same_names.proofs.spelled_same.Goals as goal

pub returns-then-n-m : goal.returns-then-n-m
returns-then-n-m c = spelled_size c.args.basic c.args.s.now c.args.table.now c.args.a.0 c.args.b.0 _ _ c.size_of-n.ensures c.size_of-m.ensures c.if-n-m.true

pub agrees-requires : goal.agrees-requires
agrees-requires c = (within_is c.args.s.now c.place_of-x.result.0 c.size_of-n.result c.stands-p.result c.stands-p.ensures (both_left c.stands-p.result c.stands-q.result c.if-p-q.true), within_is c.args.s.now c.place_of-y.result.0 c.size_of-n.result c.stands-q.result c.stands-q.ensures (both_right c.stands-p.result c.stands-q.result c.if-p-q.true))

pub returns-then-p-q : goal.returns-then-p-q
returns-then-p-q c = spelled_in c.args.basic c.args.s.now c.args.table.now c.args.a.0 c.args.b.0 _ _ _ _ c.stands-p.result c.stands-q.result _ c.size_of-n.ensures c.size_of-m.ensures c.if-n-m.false c.place_of-x.ensures c.place_of-y.ensures c.stands-p.ensures c.stands-q.ensures c.if-p-q.true c.agrees.ensures

pub returns : goal.returns
returns c = spelled_out c.args.basic c.args.s.now c.args.table.now c.args.a.0 c.args.b.0 _ _ _ _ c.stands-p.result c.stands-q.result c.size_of-n.ensures c.size_of-m.ensures c.if-n-m.false c.place_of-x.ensures c.place_of-y.ensures c.stands-p.ensures c.stands-q.ensures c.if-p-q.false
