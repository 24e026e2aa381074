-- `tree::push` meets its contract. The symbols from i on stand on the stack. Assumes nothing.
use Prim.Native.Nat.{◌+◌}
use mathlib.Core.Path.{◌≡◌}
use mathlib.Core.List.{◌++◌}
use lib.ListN.{drop}
use Rattle.forms.specs.code.Rules.{body}
use Rattle.form_table.specs.code.Symbols.{syms}
use Rattle.tree.proofs.push.Given as goal

abbrev pub invariant-loop-i : goal.invariant-loop-i
invariant-loop-i l = (syms (drop (l.base + l.i) l.stk) ≡ drop l.i (body l.p) ++ syms (drop l.sp l.initial.stk))
