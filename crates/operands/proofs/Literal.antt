-- A literal's outcome is that of a number, or 9 where it is too large, whatever the bytes. Assumes nothing.
use mathlib.Core.Path.{◌≡◌, refl}
use mathlib.Core.List.{List}
use Prim.Native.Nat.{ℕ}
use lib.IntN.{pos}
use Rattle.integers.specs.Integers.{sized_of}
use Rattle.literals.specs.Literals.{literal_number, literal_of}
use Rattle.operands.specs.code.Leaves.{literal_leaf}

pub literal_sized : (s : List ℕ) → (n : ℕ) × ((literal_leaf s).folded ≡ sized_of (pos n))
unfolding literal_of
literal_sized s = (literal_number s, refl)
