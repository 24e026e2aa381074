-- An underscore, or a digit. Assumes nothing.
use Prim.Native.Nat.{◌≤◌}
use native.Mathlib.Nat.{mul-le-mul}
use Rattle.numbers.proofs.Spelled.{kept_under, digit_more}
use native.Mathlib.Omega.{arith}
use Rattle.numbers.proofs.with_digit.Goals as goal

pub returns-then-b-eq95 : goal.returns-then-b-eq95
returns-then-b-eq95 c = search kept_under

pub overflow_mul-n : goal.overflow_mul-n
overflow_mul-n c = let v : c.from.result ≤ 4294967295 = omega arith in
    let base : c.from-2.result ≤ 255 = omega arith in
    omega (arith, mul-le-mul v base)

pub overflow_add-n : goal.overflow_add-n
overflow_add-n c = let v : c.from.result ≤ 4294967295 = omega arith in
    let base : c.from-2.result ≤ 255 = omega arith in
    omega (arith, mul-le-mul v base)

pub returns : goal.returns
returns c = search digit_more
