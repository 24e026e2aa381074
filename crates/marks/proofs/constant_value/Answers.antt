-- The answer by its mark; one that is not of the mark's kind ends the item in its state. Assumes nothing.
use mathlib.Core.Path.{◌≡◌, refl}
use mathlib.Core.Logic.{◌⊎◌, inl, inr}
use Prim.Native.Nat.{ℕ}
use borrow.Author.Rules.{rules}
use lib.IntN.{ℤ}
use mathlib.Core.Bool.{Bool}
use Rattle.integers.specs.declared.Folded.{Folded}
use Rattle.integers.specs.declared.Folded.TheVariants as F
use Rattle.values.specs.declared.Value.{Value}
use Rattle.values.specs.declared.Value.TheVariants.{Number, Truth, Range, Truths, Without}
use Rattle.marks.specs.code.Marks.{constant_of, value_in, without_of}
use Rattle.marks.proofs.constant_value.Goals as goal

no_number : (mark : Value) (low high : ℤ) (f : Folded) → mark ≡ Range low high → ((z : ℤ) → f ≡ F.Whole z → ⊥) → without_of f ≡ value_in mark f
no_number mark low high (F.Whole z) e h = absurd (h z refl)
no_number mark low high (F.Truth t) e h = rw e
no_number mark low high (F.Stopped s) e h = rw e

no_truth : (mark : Value) (f : Folded) → mark ≡ Truths → ((t : Bool) → f ≡ F.Truth t → ⊥) → without_of f ≡ value_in mark f
no_truth mark (F.Whole z) e h = rw e
no_truth mark (F.Truth t) e h = absurd (h t refl)
no_truth mark (F.Stopped s) e h = rw e

no_mark : (mark : Value) (f : Folded) → ((x : ℤ) × (mark ≡ Number x)) ⊎ (((x : Bool) × (mark ≡ Truth x)) ⊎ ((x : ℕ) × (mark ≡ Without x))) → without_of f ≡ value_in mark f
no_mark mark f (inl (x, e)) = rw e
no_mark mark f (inr (inl (x, e))) = rw e
no_mark mark f (inr (inr (x, e))) = rw e

pub returns-in_default : goal.returns-in_default
unfolding constant_of
returns-in_default c = search (rules, no_number)

pub returns-in_default-answer : goal.returns-in_default-answer
unfolding constant_of
returns-in_default-answer c = search (rules, no_truth)

pub returns-in-Whole : goal.returns-in-Whole
unfolding constant_of
returns-in-Whole c = search rules

pub returns-in-Truth : goal.returns-in-Truth
unfolding constant_of
returns-in-Truth c = search rules

pub returns-in-Number : goal.returns-in-Number
unfolding constant_of
returns-in-Number c = search (rules, no_mark)
