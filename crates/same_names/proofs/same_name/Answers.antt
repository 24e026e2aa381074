-- `same_names::same_name` meets its contract. By the kind of both elements, as the definition goes. Assumes nothing.
use Rattle.same_names.proofs.Laws.{same_kinds, same_by, by_none}
use Rattle.same_names.proofs.same_name.Goals as goal

pub returns-then-p-q : goal.returns-then-p-q
returns-then-p-q c = same_kinds c.args.s.now c.args.table.now c.args.a.0 c.args.b.0 _ _ c.kind_of-p.ensures c.kind_of-q.ensures c.if-p-q.true

pub returns-in-1 : goal.returns-in-1
returns-in-1 c = same_by c.args.s.now c.args.table.now c.args.a.0 c.args.b.0 _ _ _ c.kind_of-p.ensures c.kind_of-q.ensures c.if-p-q.false (rw c.in-1.is c.spelled_same.ensures)

pub returns-in-2 : goal.returns-in-2
returns-in-2 c = same_by c.args.s.now c.args.table.now c.args.a.0 c.args.b.0 _ _ _ c.kind_of-p.ensures c.kind_of-q.ensures c.if-p-q.false (rw c.in-2.is c.spelled_same-in-2.ensures)

pub returns-in_default : goal.returns-in_default
returns-in_default c = same_by c.args.s.now c.args.table.now c.args.a.0 c.args.b.0 _ _ _ c.kind_of-p.ensures c.kind_of-q.ensures c.if-p-q.false (by_none c.args.s.now c.args.table.now c.args.a.0 c.args.b.0 _ _ _ c.in_default.in_default-own.rest.0.1 c.in_default.in_default-own.rest.1)
