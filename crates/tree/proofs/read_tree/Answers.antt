-- `tree::read_tree` meets its contract. What the scan found decides the answer and the table, by the laws of Final. Assumes nothing.
use Prim.Native.Nat.{ℕ}
use mathlib.Core.Path.{◌≡◌, subst}
use native.Mathlib.Omega.{arith}
use lib.ListN.{length}
use Rattle.std.specs.Prelude.{Ok}
use Rattle.tree.specs.code.Answers.{reading_in, elements_counted}
use Rattle.tree.specs.code.Held.{Tells}
use Rattle.tree.proofs.Final.{table_whole}
use Rattle.tree.proofs.read_tree.Goals as goal

pub returns-clause-tree_after : goal.returns-clause-tree_after
returns-clause-tree_after c = let n : c.min-n.result ≡ elements_counted c.args.elements.now c.args.count = omega arith in
    let s = c.scan.new.machine in
    table_whole s.cells s.next s.heads c.in_ok-used.used (length c.args.tree.now) c.clear.new.t c.write_out.new.tab (reading_in c.args.text.now c.args.elements.now (elements_counted c.args.elements.now c.args.count))
    (subst (λ (x : ℕ). Tells (Ok c.in_ok-used.used) s.cells s.next s.heads (reading_in c.args.text.now c.args.elements.now x)) n c.in_ok-used.ensures) (omega (arith, c.if-rows-used.false, c.clear.auto.t)) c.clear.ensures c.write_out.ensures
