-- The numbers of the enum's cases tell them apart, and are those of the results. Assumes nothing.
use mathlib.Core.Path.{◌≡◌, refl, sym, ap, ◌∙◌}
use mathlib.Core.Bool.{true, false, cond, not}
use borrow.Author.Tests.{le-leb, lt-leb}
use lib.Dec.{eqb}
use lib.IntN.{nat_abs}
use Rattle.integers.specs.Integers.{largest, sized_of}
use Rattle.integers.specs.FoldedNumbers.{Numbers, numbers_of, ToldApart, SizedNumbers}
use Rattle.integers.specs.declared.Folded.{Folded}
use Rattle.integers.specs.declared.Folded.TheVariants.{Whole, Truth, Stopped}

-- the case that has these numbers
back : Numbers → Folded
back n = cond (eqb n.kind 1) (Whole n.number) (cond (eqb n.kind 2) (Truth (not (eqb (nat_abs n.number) 0))) (Stopped n.state))

back_of : (x : Folded) → back (numbers_of x) ≡ x
unfolding back
back_of (Whole z) = refl
back_of (Truth false) = refl
back_of (Truth true) = refl
back_of (Stopped s) = refl

pub told_apart : ToldApart
told_apart x y e = sym (back_of x) ∙ ap back e ∙ back_of y

pub sized_numbers : SizedNumbers
unfolding sized_of
sized_numbers z = ((λ h. rw (le-leb (nat_abs z) largest h)), λ h. rw (lt-leb (nat_abs z) largest h))
