-- The invariant: the hash so far, with the bytes left, is that of all. Assumes nothing.
use mathlib.Core.Path.{◌∙◌, ap}
use Prim.Native.Nat.{◌<◌}
use native.Mathlib.Omega.{arith}
use Rattle.same_names.specs.Spelling.{counts}
use Rattle.names.proofs.Hashing.{hash_start, hash_turn, hash_end, part_long, part_at}
use Rattle.names.proofs.hashed.Goals as goal

pub loop-b-init : goal.loop-b-init
loop-b-init c = (omega arith, hash_start _ _ _ _)

pub loop-b-preserved : goal.loop-b-preserved
loop-b-preserved c = let p = part_long c.args.text.now c.args.first.0 c.args.n c.requires in
    let i : c.loop-b.b-index < c.args.n = omega arith in (
      c.mixed-h.ensures.1,
      hash_turn _ _ _ _ _ _ _ _ c.loop-b.invariant.1 i (c.counted.ensures ∙ ap (counts c.args.basic) (part_at c.args.text.now c.args.first.0 c.args.n c.requires c.loop-b.b-index i)) c.mixed-h.ensures.0,
    )

pub returns : goal.returns
returns c = let p = part_long c.args.text.now c.args.first.0 c.args.n c.requires in (hash_end _ _ _ _ _ _ c.loop-b.invariant.1 (omega arith), c.loop-b.invariant.0)
