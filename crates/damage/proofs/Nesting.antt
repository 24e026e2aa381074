-- Rows nest: what a row with its rows holds ends where the row after it begins, so that a row is inside no form 25 or 26 that stands in the
-- subtree before it. Assumes nothing.
use Prim.Native.Nat.{ℕ, ◌+◌}
use mathlib.Core.Path.{◌≡◌, refl, sym, ap, subst}
use mathlib.Core.List.{List, [], ◌∷◌, ◌++◌}
use native.Mathlib.Omega.{arith}
use lib.ListN.{length, drop, length-append}
use lib.Seq.{drop_at}
use Rattle.forms.specs.Tree.{Row, Forest, bare, tree}
use Rattle.forms.proofs.Growing.{forest_append}
use Rattle.forms.specs.Tree.{behind}
use Rattle.damage.specs.Damage.{NotWithin}

pub not_append : (a b : List Row) → NotWithin a → NotWithin b → NotWithin (a ++ b)
not_append [] b f g = g
not_append (r ∷ a) b f g = ((λ k. omega (arith, f.0 k, length-append a b)), not_append a b f.1 g)

-- rows that are trees, one after the other: nothing after them is inside one of them
pub forest_not : {lo hi : ℕ} {l : List Row} → Forest lo hi l → NotWithin l
forest_not (bare h) = tt
forest_not (tree {r = r} {inside = x} {after = y} a f e g j) =
    subst (λ (rest : List Row). NotWithin (r ∷ rest)) j ((λ k. omega (arith, e, length-append x y)), not_append x y (forest_not f) (forest_not g))

abbrev pub Nests : List Row → Type 0
Nests l = (lo : ℕ) × (hi : ℕ) × Forest lo hi l

-- the rows after the first, and those after its subtree
abbrev Rest : List Row → Type 0
Rest [] = Unit {0}
Rest (r ∷ rs) = Nests rs

rest_of : {lo hi : ℕ} {l : List Row} → Forest lo hi l → Rest l
rest_of (bare h) = tt
rest_of (tree {hi = hi} {r = r} a f e g j) = subst Nests j (r.first, hi, forest_append f g)

pub nests_rest : (r : Row) (rs : List Row) → Nests (r ∷ rs) → Nests rs
nests_rest r rs n = rest_of n.2

abbrev pub Behind : List Row → Type 0
Behind l = Nests (behind l) × ((c : List Row) × (l ≡ c ++ behind l) × NotWithin c)

behind_of : {lo hi : ℕ} {l : List Row} → Forest lo hi l → Behind l
behind_of {lo = lo} {hi = hi} (bare h) = ((lo, hi, bare h), ([], refl, tt))
behind_of (tree {hi = hi} {r = r} {inside = x} {after = y} a f e g j) =
    subst (λ (rest : List Row). Behind (r ∷ rest)) j
    (let z : length (r ∷ x) ≡ r.rows = omega (arith, e) in
    let d : drop r.rows (r ∷ (x ++ y)) ≡ y = drop_at (r ∷ x) y r.rows z in
    (subst Nests (sym d) (r.first + r.count, hi, g), (r ∷ x, ap (λ (m : List Row). r ∷ (x ++ m)) (sym d), ((λ k. omega (arith, e)), forest_not f))))

pub nests_behind : (l : List Row) → Nests l → Behind l
nests_behind l n = behind_of n.2
