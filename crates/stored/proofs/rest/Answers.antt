-- The part, or nothing. Assumes nothing.
use Prim.Native.Nat.{◌≤◌}
use lib.ListN.{length}
use Rattle.stored.proofs.Names.{rest_part}
use mathlib.Core.Path.{sym}
use native.Mathlib.Omega.{arith}
use lib.ListN.{drop_of_length-le}
use Rattle.stored.proofs.rest.Goals as goal

pub returns-then-k-s : goal.returns-then-k-s
returns-then-k-s c = rest_part c.args.s.now c.args.k

pub returns : goal.returns
returns c = let h : length c.args.s.now ≤ c.args.k = omega arith in sym (drop_of_length-le c.args.s.now h)
