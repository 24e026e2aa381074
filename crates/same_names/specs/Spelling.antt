-- When two stretches of bytes are one name (01, "Elements": case is ignored; extended identifiers keep it and equal no basic one). Assumes nothing.
use Rattle.std.specs.Prelude.{ℕ, zero, suc, Bool, true, false, ◌&&◌, List, [], ◌∷◌, eqb}
use Rattle.classes.specs.Bytes.{lower}

-- a byte as it counts in a name, basic or not
abbrev pub counts : Bool → ℕ → ℕ
counts true b = lower b
counts false b = b

-- two stretches of bytes count the same in a name, basic or not
unfoldable pub spelt : Bool → List ℕ → List ℕ → Bool
spelt basic [] [] = true
spelt basic [] (y ∷ ys) = false
spelt basic (x ∷ xs) [] = false
spelt basic (x ∷ xs) (y ∷ ys) = eqb (counts basic x) (counts basic y) && spelt basic xs ys

-- 1 is the kind of identifiers, 2 that of extended ones
abbrev pub by_kind : ℕ → Bool → Bool → Bool
by_kind zero x y = false
by_kind (suc zero) x y = x
by_kind (suc (suc zero)) x y = y
by_kind (suc (suc (suc k))) x y = false
