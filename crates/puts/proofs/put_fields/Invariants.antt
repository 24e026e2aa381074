-- The invariant: what was put at the place is the fields of the words passed. Assumes nothing.
use Prim.Native.Nat.{ℕ}
use mathlib.Core.List.{List, []}
use lib.ListN.{take}
use Rattle.puts.specs.Puts.{Wrote}
use Rattle.puts.specs.Decimals.{fields_of}
use Rattle.puts.proofs.put_fields.Given as goal

abbrev pub invariant-loop-word : goal.invariant-loop-word
invariant-loop-word l = (t : List ℕ) → Wrote t l.at [] l.initial.out l.initial.w → Wrote t l.at (fields_of (take l.word-index l.words)) l.out l.w
