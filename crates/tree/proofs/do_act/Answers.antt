-- `tree::do_act` meets its contract. Each action keeps what the arrays hold: one law of Acts to each. Assumes nothing.
use Rattle.tree.specs.code.Held.{Did}
use Prim.Native.Nat.{◌+◌}
use mathlib.Core.Path.{sym, subst}
use native.Mathlib.Omega.{arith}
use lib.ListN.{set}
use Rattle.same_names.specs.Alike.{same_name}
use Rattle.tree.proofs.Acts as acts
use Rattle.tree.proofs.do_act.Goals as goal

pub returns-then-a-eq-OPENS : goal.returns-then-a-eq-OPENS
returns-then-a-eq-OPENS c = λ s h d. subst (λ (x : Did). acts.After c.args.frames.now c.args.cells.now c.args.next.now c.args.heads.now c.args.fp c.args.used c.args.depth c.args.k (same_name c.args.text.now c.args.elements.now) s h d x c.open_frame.new.frames c.args.cells.now c.args.next.now c.args.heads.now c.args.a) (sym c.went.ensures) (acts.act_opens c.args.frames.now c.args.cells.now c.args.next.now c.args.heads.now c.args.fp c.args.used c.args.depth c.args.k (same_name c.args.text.now c.args.elements.now) s h d c.args.a c.open_frame.new.frames c.if-a-eq-OPENS.true c.requires.0 (omega arith) c.open_frame.ensures)

pub returns-then-fp-frames : goal.returns-then-fp-frames
returns-then-fp-frames c = λ s h d. subst (λ (x : Did). acts.After c.args.frames.now c.args.cells.now c.args.next.now c.args.heads.now c.args.fp c.args.used c.args.depth c.args.k (same_name c.args.text.now c.args.elements.now) s h d x c.args.frames.now c.args.cells.now c.args.next.now c.args.heads.now c.args.a) (sym c.went-then-fp-frames.ensures) (acts.act_closes c.args.frames.now c.args.cells.now c.args.next.now c.args.heads.now c.args.fp c.args.used c.args.depth c.args.k (same_name c.args.text.now c.args.elements.now) s h d c.args.a c.if-a-eq-CLOSES.true c.if-fp-frames.true)

pub returns-then-a-eq-CLOSES : goal.returns-then-a-eq-CLOSES
returns-then-a-eq-CLOSES c = λ s h d. subst (λ (x : Did). acts.After c.args.frames.now c.args.cells.now c.args.next.now c.args.heads.now c.args.fp c.args.used c.args.depth c.args.k (same_name c.args.text.now c.args.elements.now) s h d x c.args.frames.now c.args.cells.now c.args.next.now c.args.heads.now c.args.a) (sym c.went-then-a-eq-CLOSES.ensures) (acts.act_last c.args.frames.now c.args.cells.now c.args.next.now c.args.heads.now c.args.fp c.args.used c.args.depth c.args.k (same_name c.args.text.now c.args.elements.now) s h d c.args.a c.if-a-eq-CLOSES.true c.if-fp-frames.false)

pub returns-then-a-eq-MARKS : goal.returns-then-a-eq-MARKS
returns-then-a-eq-MARKS c = λ s h d. subst (λ (x : Did). acts.After c.args.frames.now c.args.cells.now c.args.next.now c.args.heads.now c.args.fp c.args.used c.args.depth c.args.k (same_name c.args.text.now c.args.elements.now) s h d x (set c.args.frames.now (c.args.fp + 1) c.saturating_sub.result) c.args.cells.now c.args.next.now c.args.heads.now c.args.a) (sym c.went-then-a-eq-MARKS.ensures) (acts.act_marks c.args.frames.now c.args.cells.now c.args.next.now c.args.heads.now c.args.fp c.args.used c.args.depth c.args.k (same_name c.args.text.now c.args.elements.now) s h d c.args.a c.saturating_sub.result c.if-a-eq-MARKS.true c.saturating_sub.ensures)

pub returns-then-a-eq-NAMED : goal.returns-then-a-eq-NAMED
returns-then-a-eq-NAMED c = λ s h d. subst (λ (x : Did). acts.After c.args.frames.now c.args.cells.now c.args.next.now c.args.heads.now c.args.fp c.args.used c.args.depth c.args.k (same_name c.args.text.now c.args.elements.now) s h d x (set c.args.frames.now (c.args.fp + 3) c.args.k) c.args.cells.now c.args.next.now c.args.heads.now c.args.a) (sym c.went-then-a-eq-NAMED.ensures) (acts.act_names c.args.frames.now c.args.cells.now c.args.next.now c.args.heads.now c.args.fp c.args.used c.args.depth c.args.k (same_name c.args.text.now c.args.elements.now) s h d c.args.a c.if-a-eq-NAMED.true)

pub returns-then-is_named : goal.returns-then-is_named
returns-then-is_named c = λ s h d. subst (λ (x : Did). acts.After c.args.frames.now c.args.cells.now c.args.next.now c.args.heads.now c.args.fp c.args.used c.args.depth c.args.k (same_name c.args.text.now c.args.elements.now) s h d x c.args.frames.now c.args.cells.now c.args.next.now c.args.heads.now c.args.a) (sym c.went-then-is_named.ensures) (acts.act_same c.args.frames.now c.args.cells.now c.args.next.now c.args.heads.now c.args.fp c.args.used c.args.depth c.args.k (same_name c.args.text.now c.args.elements.now) s h d c.args.a c.is_named.result c.if-a-eq-SAME.true c.is_named.ensures c.if-is_named.true)

pub returns-then-a-eq-SAME : goal.returns-then-a-eq-SAME
returns-then-a-eq-SAME c = λ s h d. acts.act_differs c.args.frames.now c.args.cells.now c.args.next.now c.args.heads.now c.args.fp c.args.used c.args.depth c.args.k (same_name c.args.text.now c.args.elements.now) s h d c.args.a c.is_named.result c.last_read.result c.if-a-eq-SAME.true c.is_named.ensures c.if-is_named.false c.last_read.ensures

pub returns-then-depth-lt-MOST_OPEN : goal.returns-then-depth-lt-MOST_OPEN
returns-then-depth-lt-MOST_OPEN c = λ s h d. subst (λ (x : Did). acts.After c.args.frames.now c.args.cells.now c.args.next.now c.args.heads.now c.args.fp c.args.used c.args.depth c.args.k (same_name c.args.text.now c.args.elements.now) s h d x c.args.frames.now c.args.cells.now c.args.next.now c.args.heads.now c.args.a) (sym c.went-then-depth-lt-MOST_OPEN.ensures) (acts.act_deeper c.args.frames.now c.args.cells.now c.args.next.now c.args.heads.now c.args.fp c.args.used c.args.depth c.args.k (same_name c.args.text.now c.args.elements.now) s h d c.args.a c.if-a-eq-DEEPER.true c.if-depth-lt-MOST_OPEN.true)

pub returns-then-a-eq-DEEPER : goal.returns-then-a-eq-DEEPER
returns-then-a-eq-DEEPER c = λ s h d. acts.act_deep c.args.frames.now c.args.cells.now c.args.next.now c.args.heads.now c.args.fp c.args.used c.args.depth c.args.k (same_name c.args.text.now c.args.elements.now) s h d c.args.a c.last_read-then-a-eq-DEEPER.result c.if-a-eq-DEEPER.true c.if-depth-lt-MOST_OPEN.false c.last_read-then-a-eq-DEEPER.ensures

pub returns-then-a-eq-SHALLOWER : goal.returns-then-a-eq-SHALLOWER
returns-then-a-eq-SHALLOWER c = λ s h d. subst (λ (x : Did). acts.After c.args.frames.now c.args.cells.now c.args.next.now c.args.heads.now c.args.fp c.args.used c.args.depth c.args.k (same_name c.args.text.now c.args.elements.now) s h d x c.args.frames.now c.args.cells.now c.args.next.now c.args.heads.now c.args.a) (sym c.went-then-a-eq-SHALLOWER.ensures) (acts.act_shallower c.args.frames.now c.args.cells.now c.args.next.now c.args.heads.now c.args.fp c.args.used c.args.depth c.args.k (same_name c.args.text.now c.args.elements.now) s h d c.args.a c.saturating_sub-then-a-eq-SHALLOWER.result c.if-a-eq-SHALLOWER.true c.saturating_sub-then-a-eq-SHALLOWER.ensures)

pub overflow_sub-a : goal.overflow_sub-a
overflow_sub-a c = acts.seven c.args.a c.if-a-eq-OPENS.false c.if-a-eq-CLOSES.false c.if-a-eq-MARKS.false c.if-a-eq-NAMED.false c.if-a-eq-SAME.false c.if-a-eq-DEEPER.false c.if-a-eq-SHALLOWER.false

pub returns : goal.returns
returns c = λ s h d. subst (λ (x : Did). acts.After c.args.frames.now c.args.cells.now c.args.next.now c.args.heads.now c.args.fp c.args.used c.args.depth c.args.k (same_name c.args.text.now c.args.elements.now) s h d x c.args.frames.now c.complete_row.new.cells c.complete_row.new.next c.complete_row.new.heads c.args.a) (sym c.went-2.ensures) (acts.act_row c.args.frames.now c.args.cells.now c.args.next.now c.args.heads.now c.args.fp c.args.used c.args.depth c.args.k (same_name c.args.text.now c.args.elements.now) s h d c.args.a c.complete_row.new.cells c.complete_row.new.next c.complete_row.new.heads c.if-a-eq-OPENS.false c.if-a-eq-CLOSES.false c.if-a-eq-MARKS.false c.if-a-eq-NAMED.false c.if-a-eq-SAME.false c.if-a-eq-DEEPER.false c.if-a-eq-SHALLOWER.false c.requires.7 c.requires.1 c.requires.2 c.requires.3 c.requires.4 c.complete_row.ensures.0 c.complete_row.ensures.1 c.complete_row.ensures.2)
