-- The invariant: acc is a to the number of turns, which is at most 2147483647 in size. Where the next power is larger, so is the whole one. Assumes nothing.
use mathlib.Core.Path.{◌≡◌, refl, ap, sym, ◌∙◌}
use mathlib.Core.Bool.{true, false}
use Prim.Native.Nat.{ℕ, ◌+◌, ◌*◌, ◌≤◌, ◌<◌, ◌^◌}
use native.Mathlib.Nat.{mul-le-mul}
use native.Mathlib.Omega.{arith}
use lib.Dec.{lit≤, lit<, leb}
use lib.IntN.{ℤ, pos, neg_ℤ, nat_abs, pow, one, ◌*ℤ◌}
use lib.Signed.{mag, lt_z}
use mir.Syntax.{w64}
use mir.Val.{SFits, to_z, of_z}
use mir.ValLaws.{to_z-of_z}
use borrow.Author.Tests.{ltb-true, ltb-false, lt-leb}
use Rattle.integers.specs.Integers.{largest, sized_of}
use Rattle.integers.specs.FoldedNumbers.{beyond}
use Rattle.integers.proofs.Ints.{sfits_small, nat_abs_neg, nat_abs_mul, mul_small, pow_step, pow_over}
use Rattle.integers.proofs.climb.Goals as goal

-- one turn: what the next number is, from the bits of the one before
module _ (a : ℤ) (f : SFits w64 a) (acc i : ℕ) (h : to_z w64 acc ≡ pow (to_z w64 (of_z w64 a)) i) (s : nat_abs (pow (to_z w64 (of_z w64 a)) i) ≤ largest) (r : nat_abs a ≤ beyond) where
  back : to_z w64 (of_z w64 a) ≡ a
  back = to_z-of_z w64 a f

  next_is : to_z w64 (of_z w64 (to_z w64 acc *ℤ to_z w64 (of_z w64 a))) ≡ pow a (i + 1)
  next_is = rw (h, back, to_z-of_z w64 _ (mul_small (pow a i) a (rw back at s) r)) (pow_step _ _)

  size_fits : SFits w64 (neg_ℤ (to_z w64 (of_z w64 (to_z w64 acc *ℤ to_z w64 (of_z w64 a)))))
  size_fits =
      rw (next_is, ← pow_step a i)
      (sfits_small (neg_ℤ (pow a i *ℤ a)) (largest * beyond) (rw (nat_abs_neg (pow a i *ℤ a), nat_abs_mul (pow a i) a) (mul-le-mul (rw back at s) r)) (lit< tt))

-- the test of a size
module _ (z x : ℤ) (e : x ≡ pos (nat_abs z)) (f : mag x < 2 ^ 63) where
  read : to_z w64 (of_z w64 x) ≡ pos (nat_abs z)
  read = to_z-of_z w64 x (record { sfits = f }) ∙ e

  over : lt_z (pos largest) (to_z w64 (of_z w64 x)) ≡ true → leb (nat_abs z) largest ≡ false
  over t = lt-leb (nat_abs z) largest (ltb-true largest (nat_abs z) (rw read at t))

  under : lt_z (pos largest) (to_z w64 (of_z w64 x)) ≡ false → nat_abs z ≤ largest
  under t = ltb-false largest (nat_abs z) (rw read at t)

pub loop-init : goal.loop-init
unfolding pow one
loop-init c = (refl, lit≤ tt)

pub abs-requires : goal.abs-requires
abs-requires c = size_fits _ c.ranges.a _ _ c.loop.invariant.0 c.loop.invariant.1 c.requires.0

pub returns-then-abs-gt-LARGEST : goal.returns-then-abs-gt-LARGEST
unfolding sized_of
returns-then-abs-gt-LARGEST c = let n = next_is _ c.ranges.a _ _ c.loop.invariant.0 c.loop.invariant.1 c.requires.0 in
    rw (pow_over c.args.a (c.loop.counter + 1) c.args.n c.requires.1 (omega arith) (over (pow c.args.a (c.loop.counter + 1)) c.abs.result (rw n at c.abs.ensures.value) c.abs.type_inv c.if-abs-gt-LARGEST.true))

pub loop-preserved : goal.loop-preserved
loop-preserved c =
    let n = next_is _ c.ranges.a _ _ c.loop.invariant.0 c.loop.invariant.1 c.requires.0 in
    let k = under (pow c.args.a (c.loop.counter + 1)) c.abs.result (rw n at c.abs.ensures.value) c.abs.type_inv c.if-abs-gt-LARGEST.false in
    let b : to_z w64 (of_z w64 c.args.a) ≡ c.args.a = to_z-of_z w64 c.args.a c.ranges.a in
    (n ∙ ap (λ (a : ℤ). pow a (c.loop.counter + 1)) (sym b), rw b k)
