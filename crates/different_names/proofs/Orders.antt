-- Byte order is an order: two names are the same where neither is below the other, and what is below a name is below those above it. Assumes
-- nothing.
use mathlib.Core.Path.{◌≡◌, refl, ◌∙◌}
use mathlib.Core.Bool.{Bool, true, false, cond}
use mathlib.Core.List.{List, [], ◌∷◌}
use Prim.Native.Nat.{ℕ, ◌≤◌, ◌<◌}
use native.Mathlib.Nat.{le_refl}
use native.Mathlib.Omega.{arith}
use borrow.Author.Tests.{eq-eqb, ne_eqb, ltb-true, ltb-false, lt-ltb, le-ltb}
use lib.Dec.{ltb}
use Rattle.std.specs.Ordering.{nat_cmp}
use Rattle.std.specs.Cmp.Lexicographic.{slice_cmp}
use Rattle.laws.proofs.Laws.{clash}
use Rattle.stored.specs.Stored.{same_bytes}
use Rattle.stored.proofs.Names.{same_is, same_self}
use Rattle.different_names.specs.code.Orders.{order_of}
use Rattle.std.specs.declared.cmp.Ordering.TheVariants.{Less, Equal, Greater}

-- what `cmp` says of slices of bytes
pub order_cmp : (a b : List ℕ) → slice_cmp nat_cmp a b ≡ order_of a b
unfolding order_of
order_cmp [] [] = refl
order_cmp [] (y ∷ b) = refl
order_cmp (x ∷ a) [] = refl
order_cmp (x ∷ a) (y ∷ b) = go (ltb x y) (ltb y x) refl refl (order_cmp a b)
  where
    go : (p q : Bool) → ltb x y ≡ p → ltb y x ≡ q → slice_cmp nat_cmp a b ≡ order_of a b → slice_cmp nat_cmp (x ∷ a) (y ∷ b) ≡ cond p Less (cond q Greater (order_of a b))
    go true q f g e = rw f
    go false true f g e = let l = ltb-true y x g in rw (f, ne_eqb x y (λ h. omega arith))
    go false false f g e = let l = ltb-false x y f in let m = ltb-false y x g in rw (f, eq-eqb x y (omega arith)) e

pub order_self : (a : List ℕ) → order_of a a ≡ Equal
unfolding order_of
order_self [] = refl
order_self (x ∷ a) = rw (le-ltb x x (le_refl x)) (order_self a)

pub cons_below : (x y : ℕ) (a b : List ℕ) → x < y → order_of (x ∷ a) (y ∷ b) ≡ Less
unfolding order_of
cons_below x y a b l = rw (lt-ltb x y l)

pub cons_above : (x y : ℕ) (a b : List ℕ) → y < x → order_of (x ∷ a) (y ∷ b) ≡ Greater
unfolding order_of
cons_above x y a b l = rw (le-ltb x y (omega arith), lt-ltb y x l)

pub cons_same : (x y : ℕ) (a b : List ℕ) → y ≤ x → x ≤ y → order_of (x ∷ a) (y ∷ b) ≡ order_of a b
unfolding order_of
cons_same x y a b l m = rw (le-ltb x y l, le-ltb y x m)

pub order_same : (a b : List ℕ) → order_of a b ≡ Equal → a ≡ b
unfolding order_of
order_same [] [] e = refl
order_same [] (y ∷ b) e = clash (cc)
order_same (x ∷ a) [] e = clash (cc)
order_same (x ∷ a) (y ∷ b) e = go (ltb x y) (ltb y x) refl refl (λ h. order_same a b h) e
  where
    go : (p q : Bool) → ltb x y ≡ p → ltb y x ≡ q → (order_of a b ≡ Equal → a ≡ b) → cond p Less (cond q Greater (order_of a b)) ≡ Equal → x ∷ a ≡ y ∷ b
    go true q f g h e = clash (cc)
    go false true f g h e = clash (cc)
    go false false f g h e = let w = h e in let l = ltb-false x y f in let m = ltb-false y x g in let v : x ≡ y = omega arith in cc

pub below_next : (a b d : List ℕ) → order_of a b ≡ Less → order_of b d ≡ Less → order_of a d ≡ Less
unfolding order_of
below_next [] [] d e f = clash (cc)
below_next [] (y ∷ b) [] e f = clash (cc)
below_next [] (y ∷ b) (z ∷ d) e f = refl
below_next (x ∷ a) [] d e f = clash (let w : Greater ≡ Less = e in cc)
below_next (x ∷ a) (y ∷ b) [] e f = clash (let w : Greater ≡ Less = f in cc)
below_next (x ∷ a) (y ∷ b) (z ∷ d) e f = go (ltb x y) (ltb y x) (ltb y z) (ltb z y) refl refl refl refl (λ g h. below_next a b d g h) e f
  where
    go : (p q r s : Bool) → ltb x y ≡ p → ltb y x ≡ q → ltb y z ≡ r → ltb z y ≡ s → (order_of a b ≡ Less → order_of b d ≡ Less → order_of a d ≡ Less)
        → cond p Less (cond q Greater (order_of a b)) ≡ Less → cond r Less (cond s Greater (order_of b d)) ≡ Less → order_of (x ∷ a) (z ∷ d) ≡ Less
    go false true r s hp hq hr hs h e f = clash (cc)
    go true q false true hp hq hr hs h e f = clash (cc)
    go false false false true hp hq hr hs h e f = clash (cc)
    go true q true s hp hq hr hs h e f = let l = ltb-true x y hp in let m = ltb-true y z hr in cons_below x z a d (omega arith)
    go true q false false hp hq hr hs h e f = let l = ltb-true x y hp in let m = ltb-false z y hs in let k = ltb-false y z hr in cons_below x z a d (omega arith)
    go false false true s hp hq hr hs h e f = let l = ltb-false x y hp in let k = ltb-false y x hq in let m = ltb-true y z hr in cons_below x z a d (omega arith)
    go false false false false hp hq hr hs h e f =
        let l = ltb-false x y hp in let k = ltb-false y x hq in let m = ltb-false y z hr in let n = ltb-false z y hs in
        cons_same x z a d (omega arith) (omega arith) ∙ h e f

-- ---- the same bytes
pub differs : (a b : List ℕ) → (a ≡ b → ⊥) → same_bytes a b ≡ false
differs a b n = go (same_bytes a b) refl
  where
    go : (t : Bool) → same_bytes a b ≡ t → t ≡ false
    go true e = absurd (n (same_is a b e))
    go false e = refl

pub below_differs : (a b : List ℕ) → order_of a b ≡ Less → same_bytes a b ≡ false
below_differs a b e = differs a b (λ p. let w : order_of a b ≡ Equal = rw p (order_self b) in clash (cc))

pub above_differs : (a b : List ℕ) → order_of a b ≡ Greater → same_bytes a b ≡ false
above_differs a b e = differs a b (λ p. let w : order_of a b ≡ Equal = rw p (order_self b) in clash (cc))

pub below_other : (a b : List ℕ) → order_of a b ≡ Less → same_bytes b a ≡ false
below_other a b e = differs b a (λ p. let w : order_of a b ≡ Equal = rw p (order_self a) in clash (cc))

pub same_yes : (a b : List ℕ) → order_of a b ≡ Equal → same_bytes a b ≡ true
same_yes a b e = rw (order_same a b e) (same_self b)
