-- A bound without a number ends the item in its state, the first before the second; two numbers in the order of the direction. Assumes nothing.
use mathlib.Core.Path.{◌≡◌, refl}
use mathlib.Core.Bool.{Bool}
use borrow.Author.Rules.{rules}
use lib.IntN.{ℤ}
use Rattle.integers.specs.declared.Folded.{Folded}
use Rattle.integers.specs.declared.Folded.TheVariants.{Whole, Truth, Stopped}
use Rattle.values.specs.declared.Value.{Value}
use Rattle.marks.specs.code.Marks.{ranged_of, bounds_in, without_of}
use Rattle.marks.proofs.ranged_value.Goals as goal

no_second : (mark : Value) (down : Bool) (f g : Folded) (x : ℤ) → f ≡ Whole x → ((y : ℤ) → g ≡ Whole y → ⊥) → without_of g ≡ bounds_in mark down f g
no_second mark down f (Whole y) x e h = absurd (h y refl)
no_second mark down f (Truth t) x e h = rw e
no_second mark down f (Stopped s) x e h = rw e

no_first : (mark : Value) (down : Bool) (f g : Folded) → ((x : ℤ) → f ≡ Whole x → ⊥) → without_of f ≡ bounds_in mark down f g
no_first mark down (Whole x) g h = absurd (h x refl)
no_first mark down (Truth t) g h = refl
no_first mark down (Stopped s) g h = refl

pub returns-in_default : goal.returns-in_default
unfolding ranged_of
returns-in_default c = search (rules, no_first)

pub returns-in_default-second : goal.returns-in_default-second
unfolding ranged_of
returns-in_default-second c = search (rules, no_second)

pub returns-then-down : goal.returns-then-down
unfolding ranged_of
returns-then-down c = search rules

pub returns : goal.returns
unfolding ranged_of
returns c = search rules
