-- Names in byte order, and what their order tells. Assumes nothing.
use Rattle.std.specs.Prelude.{ℕ, ◌≡◌, true, false, cond, List, [], ◌∷◌, ltb}
use Rattle.std.specs.declared.cmp.Ordering.{Ordering}
use Rattle.std.specs.declared.cmp.Ordering.TheVariants.{Less, Equal, Greater}
use Rattle.stored.specs.Stored.{distinct}
use Rattle.different_names.specs.StandingNames.{names_from}
use Rattle.different_names.specs.declared.Told.{Told}
use Rattle.different_names.specs.declared.Told.TheVariants.{Different, Twice, Unsure}

-- by the first bytes that differ; a name's end is below every byte
unfoldable pub order_of : List ℕ → List ℕ → Ordering
order_of [] [] = Equal
order_of [] (b ∷ t) = Less
order_of (a ∷ s) [] = Greater
order_of (a ∷ s) (b ∷ t) = cond (ltb a b) Less (cond (ltb b a) Greater (order_of s t))

-- what is told of the first n names
abbrev pub ToldRight : (ℕ → List ℕ) → ℕ → Told → Type 0
ToldRight f n Different = distinct (names_from f 0 n) ≡ true
ToldRight f n Twice = distinct (names_from f 0 n) ≡ false
ToldRight f n Unsure = Unit
