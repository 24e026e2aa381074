-- The invariant: the product so far, which is not too large. Assumes nothing.
use Rattle.integers.specs.declared.Folded.TheVariants.{Whole}
use lib.IntN.{pos}
use mir.Syntax.{w32}
use mir.ValLaws.{to_z-of_z}
use mathlib.Core.Path.{◌≡◌, ap, ◌∙◌}
use Prim.Native.Nat.{◌<◌, ◌≤◌, ◌*◌}
use borrow.Author.Rules.{rules}
use native.Mathlib.Omega.{arith}
use Rattle.literals.proofs.Laws.{scale_none, scale_start, scale_step, scale_over, scale_done, product_fits}
use Prim.Native.Nat.{◌^◌}
use Rattle.literals.proofs.scaled.Goals as goal

pub returns-then-m-eq0 : goal.returns-then-m-eq0
returns-then-m-eq0 c = search scale_none

pub loop-turn-init : goal.loop-turn-init
loop-turn-init c = (search scale_start, search rules)

pub overflow_mul-next : goal.overflow_mul-next
overflow_mul-next c = let base : c.from.result ≤ 16 = omega arith in
    omega (arith, product_fits c.loop-turn.acc c.from.result (omega arith) base)

pub returns-then-next-gt-LARGEST : goal.returns-then-next-gt-LARGEST
returns-then-next-gt-LARGEST c = let e : c.loop-turn.acc * c.from.result ≡ c.loop-turn.acc * c.args.base = cc in
    scale_over c.args.m c.args.base c.requires.1 c.loop-turn._turn c.args.e (c.loop-turn.acc * c.from.result) c.loop-turn.acc c.loop-turn.invariant.0 e c.if-next-gt-LARGEST.true (omega arith)

pub loop-turn-preserved : goal.loop-turn-preserved
loop-turn-preserved c = let e : c.loop-turn.acc * c.from.result ≡ c.loop-turn.acc * c.args.base = cc in
    (e ∙ scale_step c.args.m c.args.base c.requires.1 c.loop-turn._turn c.loop-turn.acc c.loop-turn.invariant.0, omega arith)

pub returns : goal.returns
returns c = let h : c.loop-turn.acc < 2 ^ 31 = omega arith in
    ap Whole (to_z-of_z w32 (pos c.loop-turn.acc) (record { sfits = h }))
    ∙ scale_done c.args.m c.args.base c.requires.1 c.loop-turn._turn c.args.e c.loop-turn.acc c.loop-turn.invariant.0 c.loop-turn.invariant.1 (omega arith) (omega arith)
