-- The invariant: the hash so far, with the bytes left, is that of all. Assumes nothing.
use Prim.Native.Nat.{◌<◌}
use Rattle.names.specs.code.Chains.{hashes}
use Rattle.names.proofs.Hashing.{Hashing}
use Rattle.names.proofs.hashed.Given as goal

abbrev pub invariant-loop-b : goal.invariant-loop-b
invariant-loop-b l = (l.h < hashes) × Hashing l.basic l.text l.from l.n l.b-index l.h
