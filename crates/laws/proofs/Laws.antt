-- Laws of truths and lists that the proofs of several crates cite. Assumes nothing.
use mathlib.Core.Path.{◌≡◌, refl, ap}
use mathlib.Core.Bool.{Bool, true, false, cond, ◌&&◌}
use mathlib.Core.List.{List, [], ◌∷◌}
use Prim.Native.Nat.{ℕ, zero, suc, min}
use native.Mathlib.Nat.{zero-min, min-zero, suc-min-suc}
use native.Mathlib.Omega.{arith}
use lib.Dec.{T}
use lib.ListN.{length, take, get_or, replicate}

-- where two constructors would be one, anything holds
pub clash : {A : Type 0} → ◌≡◌ {A = ℕ} 0 1 → A
clash z = absurd (omega arith)

-- both of two truths
pub both_left : (x y : Bool) → (x && y) ≡ true → x ≡ true
both_left true y e = refl
both_left false y e = e

pub both_right : (x y : Bool) → (x && y) ≡ true → y ≡ true
both_right true y e = e
both_right false y e = let z : ◌≡◌ {A = ℕ} 0 1 = cc in clash z

-- a choice that holds
pub chosen : (t x : Bool) → cond t x false ≡ true → (t ≡ true) × (x ≡ true)
chosen true x h = (refl, h)
chosen false x h = let z : ◌≡◌ {A = ℕ} 0 1 = cc in clash z

-- no more is taken than there is
pub cut : (k : ℕ) (l : List ℕ) → take (min k (length l)) l ≡ take k l
cut zero l = rw (zero-min (length l))
cut (suc k) [] = rw (min-zero (suc k))
cut (suc k) (x ∷ l) = rw (suc-min-suc k (length l)) (ap (λ (m : List ℕ). x ∷ m) (cut k l))

-- what is so is true
pub is_true : (b : Bool) → T b → b ≡ true
is_true true h = refl
is_true false h = absurd h

-- a table of zeros has nothing but zeros, and past its end nothing else is read
pub zeros_at : (n k : ℕ) → ◌≡◌ {A = ℕ} (get_or (replicate n 0) k 0) 0
zeros_at zero k = refl
zeros_at (suc n) zero = refl
zeros_at (suc n) (suc k) = zeros_at n k
