-- `tree::scan` meets its contract. The machine from here ends as it does from the start, within its bounds; the measure is what is due. One law of Going to each turn. Assumes nothing.
use Prim.Native.Nat.{◌-◌}
use mathlib.Core.Path.{sym, ◌∙◌, ap}
use native.Mathlib.Omega.{arith}
use lib.ListN.{get_or}
use Rattle.forms.specs.code.Kinds.{kind_count}
use Rattle.forms.specs.code.Picks.{predict}
use Rattle.std.proofs.lemmas.Result.{err_from_is_err_and}
use Rattle.tree.proofs.Going as going
use Rattle.tree.proofs.Lists.{kind_small}
use Rattle.tree.proofs.Turns as turns
use Rattle.tree.proofs.scan.Goals as goal

pub loop-sp-init : goal.loop-sp-init
loop-sp-init c = (
  omega arith,
  omega arith,
  omega arith,
  omega arith,
  omega arith,
  omega arith,
  omega arith,
  turns.first_turn c.args.text.now c.args.elements.now c.args.count c.args.from c.begin.new.stk c.begin.new.frames c.args.machine.now.cells c.args.machine.now.next c.begin.new.heads c.begin.ensures.0 (omega arith) c.begin.ensures.1 c.begin.ensures.2 c.requires.2,
)

pub returns-then-count-at : goal.returns-then-count-at
returns-then-count-at c = going.ends_early c.args.text.now c.args.elements.now c.args.count _ (turns.at_tok c.args.text.now c.args.elements.now c.args.count c.loop-sp.machine.stk c.loop-sp.sp c.loop-sp.invariant.0 c.loop-sp.invariant.7 c.loop-sp-test.true c.if-top-lt-FIRST_NAME.true) c.if-count-at.true

pub next_kind-t-requires : goal.next_kind-t-requires
next_kind-t-requires c = (c.requires.3, c.requires.0)

pub returns-then-top-t : goal.returns-then-top-t
returns-then-top-t c = going.wrong_kind c.args.text.now c.args.elements.now c.args.count _ (turns.at_tok c.args.text.now c.args.elements.now c.args.count c.loop-sp.machine.stk c.loop-sp.sp c.loop-sp.invariant.0 c.loop-sp.invariant.7 c.loop-sp-test.true c.if-top-lt-FIRST_NAME.true) c.next_kind-t.result c.if-count-at.false c.next_kind-t.ensures c.if-top-t.true

pub loop-sp-smaller-then-top-lt-FIRST_NAME : goal.loop-sp-smaller-then-top-lt-FIRST_NAME
loop-sp-smaller-then-top-lt-FIRST_NAME c = turns.less_eat c.args.text.now c.args.elements.now c.args.count c.loop-sp.machine.stk c.loop-sp.sp c.loop-sp.invariant.0 c.loop-sp.at c.loop-sp-test.true c.if-top-lt-FIRST_NAME.true c.if-count-at.false

pub loop-sp-preserved-then-top-lt-FIRST_NAME : goal.loop-sp-preserved-then-top-lt-FIRST_NAME
loop-sp-preserved-then-top-lt-FIRST_NAME c = (
  c.loop-sp.invariant.0,
  omega arith,
  c.loop-sp.invariant.2,
  c.loop-sp.invariant.3,
  c.loop-sp.invariant.4,
  c.loop-sp.invariant.5,
  omega arith,
  going.right_kind c.args.text.now c.args.elements.now c.args.count _ (turns.at_tok c.args.text.now c.args.elements.now c.args.count c.loop-sp.machine.stk c.loop-sp.sp c.loop-sp.invariant.0 c.loop-sp.invariant.7 c.loop-sp-test.true c.if-top-lt-FIRST_NAME.true) c.next_kind-t.result c.if-count-at.false c.next_kind-t.ensures c.if-top-t.false,
)

pub next_kind-t-requires-then-top-lt-FIRST_ACTION : goal.next_kind-t-requires-then-top-lt-FIRST_ACTION
next_kind-t-requires-then-top-lt-FIRST_ACTION c = (c.requires.3, c.requires.0)

pub pick-requires : goal.pick-requires
pick-requires c = (c.requires.3, omega arith, kind_small c.args.count c.args.elements.now c.loop-sp.at c.next_kind-t-then-top-lt-FIRST_ACTION.result c.next_kind-t-then-top-lt-FIRST_ACTION.ensures)

pub returns-in_default : goal.returns-in_default
returns-in_default c = going.no_rule c.args.text.now c.args.elements.now c.args.count _ (turns.at_nt c.args.text.now c.args.elements.now c.args.count c.loop-sp.machine.stk c.loop-sp.sp c.loop-sp.invariant.0 c.loop-sp.invariant.7 c.loop-sp-test.true c.if-top-lt-FIRST_NAME.false c.if-top-lt-FIRST_ACTION.true) (ap (predict (get_or c.loop-sp.machine.stk c.loop-sp.sp 0 - kind_count)) (sym c.next_kind-t-then-top-lt-FIRST_ACTION.ensures) ∙ c.in_default.ensures)

pub body_len-m-requires : goal.body_len-m-requires
body_len-m-requires c = (c.requires.3, turns.rule_in c.args.text.now c.args.elements.now c.args.count c.loop-sp.machine.stk c.loop-sp.sp c.loop-sp.invariant.0 c.loop-sp.at c.next_kind-t-then-top-lt-FIRST_ACTION.result c.in-Some.p c.loop-sp-test.true c.if-top-lt-FIRST_NAME.false c.if-top-lt-FIRST_ACTION.true c.next_kind-t-then-top-lt-FIRST_ACTION.ensures c.in-Some.ensures)

pub push-requires : goal.push-requires
push-requires c = (c.body_len-m.ensures, turns.rule_room c.args.text.now c.args.elements.now c.args.count c.loop-sp.machine.stk c.loop-sp.sp c.loop-sp.invariant.0 c.loop-sp.at c.next_kind-t-then-top-lt-FIRST_ACTION.result c.in-Some.p c.loop-sp-test.true c.if-top-lt-FIRST_NAME.false c.if-top-lt-FIRST_ACTION.true c.next_kind-t-then-top-lt-FIRST_ACTION.ensures c.in-Some.ensures c.loop-sp.invariant.7 c.body_len-m.result c.body_len-m.ensures, omega arith, c.requires.3)

pub overflow_sub-sp : goal.overflow_sub-sp
overflow_sub-sp c = turns.rule_room c.args.text.now c.args.elements.now c.args.count c.loop-sp.machine.stk c.loop-sp.sp c.loop-sp.invariant.0 c.loop-sp.at c.next_kind-t-then-top-lt-FIRST_ACTION.result c.in-Some.p c.loop-sp-test.true c.if-top-lt-FIRST_NAME.false c.if-top-lt-FIRST_ACTION.true c.next_kind-t-then-top-lt-FIRST_ACTION.ensures c.in-Some.ensures c.loop-sp.invariant.7 c.body_len-m.result c.body_len-m.ensures

pub loop-sp-smaller-then-top-lt-FIRST_ACTION : goal.loop-sp-smaller-then-top-lt-FIRST_ACTION
loop-sp-smaller-then-top-lt-FIRST_ACTION c = turns.rule_less c.args.text.now c.args.elements.now c.args.count c.loop-sp.machine.stk c.loop-sp.sp c.loop-sp.invariant.0 c.loop-sp.at c.next_kind-t-then-top-lt-FIRST_ACTION.result c.in-Some.p c.loop-sp-test.true c.if-top-lt-FIRST_NAME.false c.if-top-lt-FIRST_ACTION.true c.next_kind-t-then-top-lt-FIRST_ACTION.ensures c.in-Some.ensures _ c.push.ensures

pub loop-sp-preserved-then-top-lt-FIRST_ACTION : goal.loop-sp-preserved-then-top-lt-FIRST_ACTION
loop-sp-preserved-then-top-lt-FIRST_ACTION c = (
  c.push.auto.stk ∙ c.loop-sp.invariant.0,
  omega arith,
  c.loop-sp.invariant.2,
  c.loop-sp.invariant.3,
  c.loop-sp.invariant.4,
  c.loop-sp.invariant.5,
  c.loop-sp.invariant.6,
  turns.rule_on c.args.text.now c.args.elements.now c.args.count c.loop-sp.machine.stk c.loop-sp.sp c.loop-sp.invariant.0 c.loop-sp.at c.next_kind-t-then-top-lt-FIRST_ACTION.result c.in-Some.p c.loop-sp-test.true c.if-top-lt-FIRST_NAME.false c.if-top-lt-FIRST_ACTION.true c.next_kind-t-then-top-lt-FIRST_ACTION.ensures c.in-Some.ensures c.loop-sp.invariant.7 c.body_len-m.result c.push.new.stk c.body_len-m.ensures c.push.ensures,
)

pub do_act-requires : goal.do_act-requires
do_act-requires c = let g = c.loop-sp.invariant.7 in
    let u = turns.room_rows c.args.text.now c.args.elements.now c.args.count c.loop-sp.machine.stk c.loop-sp.sp c.loop-sp.invariant.0 g c.loop-sp-test.true (omega arith) in (
      turns.room_frames c.args.text.now c.args.elements.now c.args.count c.loop-sp.machine.stk c.loop-sp.sp c.loop-sp.invariant.0 g c.loop-sp-test.true c.loop-sp.invariant.2 c.if-top-lt-FIRST_ACTION.false,
      going.frames_bound c.args.text.now c.args.elements.now c.args.count _ g,
      omega arith,
      omega arith,
      omega arith,
      omega arith,
      going.depth_bound c.args.text.now c.args.elements.now c.args.count _ g,
      going.base_bound c.args.text.now c.args.elements.now c.args.count _ g,
    )

pub loop-sp-smaller : goal.loop-sp-smaller
loop-sp-smaller c = turns.less_act c.args.text.now c.args.elements.now c.args.count c.loop-sp.machine.stk c.loop-sp.sp c.loop-sp.invariant.0 c.loop-sp.at c.loop-sp-test.true c.if-top-lt-FIRST_ACTION.false

pub loop-sp-preserved : goal.loop-sp-preserved
loop-sp-preserved c = let g = turns.at_act c.args.text.now c.args.elements.now c.args.count c.loop-sp.machine.stk c.loop-sp.sp c.loop-sp.invariant.0 c.loop-sp.invariant.7 c.loop-sp-test.true c.if-top-lt-FIRST_ACTION.false in
    let d = c.do_act in (
      c.loop-sp.invariant.0,
      omega arith,
      d.auto.frames ∙ c.loop-sp.invariant.2,
      d.auto.cells ∙ c.loop-sp.invariant.3,
      d.auto.next ∙ c.loop-sp.invariant.4,
      d.auto.heads ∙ c.loop-sp.invariant.5,
      c.loop-sp.invariant.6,
      going.goes_by c.args.text.now c.args.elements.now c.args.count _ g _ d.new.frames d.new.cells d.new.next d.new.heads (c.in_ok-w.ensures g.state g.held g.deep),
    )

pub returns-in_err-w : goal.returns-in_err-w
returns-in_err-w c = let g = turns.at_act c.args.text.now c.args.elements.now c.args.count c.loop-sp.machine.stk c.loop-sp.sp c.loop-sp.invariant.0 c.loop-sp.invariant.7 c.loop-sp-test.true c.if-top-lt-FIRST_ACTION.false in
    let d = c.do_act in
    let p = err_from_is_err_and c.from_residual.result c.from_residual.ensures.1 in rw (p.1, p.2) (going.stops_here c.args.text.now c.args.elements.now c.args.count _ g _ d.new.frames d.new.cells d.new.next d.new.heads d.new.cells d.new.next d.new.heads (c.in_err-w.ensures g.state g.held g.deep))

pub returns-then-at-count : goal.returns-then-at-count
returns-then-at-count c = going.too_much c.args.text.now c.args.elements.now c.args.count _ (turns.at_end c.args.text.now c.args.elements.now c.args.count c.loop-sp.machine.stk c.loop-sp.sp c.loop-sp.invariant.0 c.loop-sp.invariant.7 c.loop-sp-test.false) c.if-at-count.true

pub returns : goal.returns
returns c = going.ends c.args.text.now c.args.elements.now c.args.count _ (turns.at_end c.args.text.now c.args.elements.now c.args.count c.loop-sp.machine.stk c.loop-sp.sp c.loop-sp.invariant.0 c.loop-sp.invariant.7 c.loop-sp-test.false) c.if-at-count.false c.loop-sp.invariant.6 c.requires.1
