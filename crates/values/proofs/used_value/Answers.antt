-- By the state and the class. Assumes nothing.
use Rattle.values.specs.code.Used.{used_value}
use Rattle.values.proofs.Steps.{used_stated, used_none}
use Rattle.values.proofs.used_value.Goals as goal

pub returns-then-state-ne0 : goal.returns-then-state-ne0
returns-then-state-ne0 c = used_stated c.args.class c.args.state c.args.kind c.args.low c.args.high c.if-state-ne0.true

pub returns-in-3 : goal.returns-in-3
unfolding used_value
returns-in-3 c = rw (c.if-state-ne0.false, c.in-3.is) c.used_constant.ensures

pub returns-in-4 : goal.returns-in-4
unfolding used_value
returns-in-4 c = rw (c.if-state-ne0.false, c.in-4.is) c.used_subtype.ensures

pub returns-in_default : goal.returns-in_default
returns-in_default c = let r = c.in_default.in_default-own.rest in
    used_none c.args.class c.args.state c.args.kind c.args.low c.args.high c.if-state-ne0.false r.0.1 r.1
