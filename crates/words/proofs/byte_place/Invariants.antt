-- The invariant: the search from here is the search in the whole. Assumes nothing.
use Rattle.words.specs.code.Packed.{byte_from}
use lib.ListN.{drop}
use Prim.Native.Nat.{◌+◌}
use mathlib.Core.Path.{◌≡◌}
use Rattle.words.proofs.byte_place.Given as goal

abbrev pub invariant-loop-i : goal.invariant-loop-i
invariant-loop-i l = byte_from (l.k + l.i) l.b (drop l.i l.list) ≡ byte_from l.k l.b l.list
