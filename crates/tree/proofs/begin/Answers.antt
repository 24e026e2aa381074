-- `tree::begin` meets its contract. Six words stored. Assumes nothing.
use native.Mathlib.Omega.{arith}
use lib.Seq.{get_or-set_same}
use Rattle.tree.proofs.Turns.{first_stack, outer_frame}
use Rattle.tree.proofs.begin.Goals as goal

pub returns : goal.returns
returns c = (first_stack c.args.stk.now c.args.from c.requires.0, outer_frame c.args.frames.now c.requires.1, get_or-set_same c.args.heads.now 0 0 0 (omega arith))
