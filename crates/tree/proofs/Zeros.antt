-- Lists of zeros. Assumes nothing.
use Prim.Native.Nat.{ℕ, zero, suc, ◌+◌}
use mathlib.Core.Path.{◌≡◌, ◌∙◌, ap}
use mathlib.Core.List.{List, ◌∷◌, ◌++◌}
use native.Mathlib.Omega.{arith}
use lib.ListN.{length, drop, replicate, length-replicate}

abbrev pub zeros : ℕ → List ℕ
zeros n = replicate n 0

pub drop_zeros : (k n : ℕ) → drop k (zeros (k + n)) ≡ zeros n
drop_zeros zero n = let z : 0 + n ≡ n = omega arith in ap zeros z
drop_zeros (suc k) n = let z : suc k + n ≡ suc (k + n) = omega arith in ap (λ (x : ℕ). drop (suc k) (zeros x)) z ∙ drop_zeros k n

pub zeros_size : (n : ℕ) → length (zeros n) ≡ n
zeros_size n = length-replicate n 0

pub zeros_append : (a b : ℕ) → zeros (a + b) ≡ zeros a ++ zeros b
zeros_append zero b = let z : 0 + b ≡ b = omega arith in ap zeros z
zeros_append (suc a) b = let z : suc a + b ≡ suc (a + b) = omega arith in ap zeros z ∙ ap (λ (l : List ℕ). 0 ∷ l) (zeros_append a b)
