-- `tree::push` meets its contract. The symbols from i on stand on the stack. Assumes nothing.
use native.Mathlib.Omega.{arith}
use Prim.Native.Nat.{◌-◌}
use mathlib.Core.Path.{◌∙◌, ap}
use lib.ListN.{drop}
use Rattle.forms.specs.code.Rules.{body}
use Rattle.form_table.specs.code.Symbols.{sym_of, syms}
use Rattle.form_table.proofs.Tables.{forms_size}
use Rattle.form_table.proofs.Lines.{ruled, body_place, body_is}
use Rattle.tree.proofs.Lists.{push_more, push_end}
use Rattle.tree.proofs.push.Goals as goal

pub overflow_mul-p : goal.overflow_mul-p
overflow_mul-p c = let r = ruled c.args.p (c.loop-i.i - 1) (omega arith) in omega (arith, r.0)

pub overflow_add-p : goal.overflow_add-p
overflow_add-p c = let r = ruled c.args.p (c.loop-i.i - 1) (omega arith) in omega (arith, r.0)

pub overflow_add-p-in-loop-i : goal.overflow_add-p-in-loop-i
overflow_add-p-in-loop-i c = omega (arith, body_place c.args.p (c.loop-i.i - 1) (omega arith))

pub bounds-forms-p : goal.bounds-forms-p
bounds-forms-p c = omega (arith, body_place c.args.p (c.loop-i.i - 1) (omega arith), forms_size c.requires.3)

pub loop-i-preserved : goal.loop-i-preserved
loop-i-preserved c = push_more c.loop-i.stk (body c.args.p) (syms (drop c.args.sp c.args.stk.now)) (c.args.sp - c.args.m) c.loop-i.i (c.loop-i.i - 1) c.from-x.result
    (omega arith) (omega arith) (omega arith) (ap sym_of c.from-x.ensures ∙ body_is c.requires.3 c.args.p (c.loop-i.i - 1) (omega arith)) c.loop-i.invariant

pub returns : goal.returns
returns c = push_end c.loop-i.stk (body c.args.p) (syms (drop c.args.sp c.args.stk.now)) (c.args.sp - c.args.m) c.loop-i.i (omega arith) c.loop-i.invariant
