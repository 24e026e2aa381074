-- The kind of the element.  Assumes nothing.
use mathlib.Core.Path.{ap}
use lib.Dec.{eqb}
use Prim.Native.Nat.{ℕ}
use Rattle.storing.proofs.basic.Goals as goal

pub returns : goal.returns
returns c = ap (λ (k : ℕ). eqb k 1) c.kind_of.ensures
