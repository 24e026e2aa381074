-- The invariant: the elements so far, with how many more the rest says, are the piece. Assumes nothing.
use Rattle.std.proofs.Common.{◌≡◌, ◌∙◌, ◌+◌, ◌-◌, ◌≤◌, ◌<◌, arith}
use Rattle.pieces.proofs.Laws.{size_start, size_stop, size_turn, size_end}
use Prim.Native.Nat.{◌-◌}
use Rattle.pieces.proofs.size_at.Goals as goal

pub loop-m-init : goal.loop-m-init
loop-m-init c = search size_start

pub returns-then-closed-opens_piece : goal.returns-then-closed-opens_piece
returns-then-closed-opens_piece c = let inside : c.args.first.0 + c.loop-m.m < c.args.n = omega arith in search size_stop

pub loop-m-preserved : goal.loop-m-preserved
loop-m-preserved c = let inside : c.args.first.0 + c.loop-m.m < c.args.n = omega arith in search size_turn

pub returns : goal.returns
returns c =
    let past : c.args.n ≤ c.args.first.0 + c.loop-m.m = omega arith in
    let whole : c.args.n - c.args.first.0 ≡ c.loop-m.m = omega arith in
    whole ∙ search size_end
