-- A number's word gives the number back, and any word a number of 32 bits. Assumes nothing.
use mathlib.Core.Path.{◌≡◌, ap, ◌∙◌}
use Prim.Native.Nat.{suc, ◌-◌, ◌%◌, ◌^◌, ◌<◌}
use native.Mathlib.Omega.{arith}
use lib.IntN.{ℤ, pos, negsuc}
use mir.Syntax.{w32}
use mir.Val.{SFits}
use Rattle.places.specs.Places.{all_words}
use Rattle.values.specs.ValueWords.{word_of, halves}
use Rattle.values.specs.code.Used.{signed_half, signed_number}
use Rattle.values.proofs.Steps.{half_low, half_high}

pub number_word : (z : ℤ) → SFits w32 z → signed_number (word_of z) ≡ z
unfolding signed_number
number_word (pos n) f =
    let h : n < 2 ^ 31 = f.sfits in
    let e : n % halves ≡ n = omega arith in
    ap signed_half e ∙ half_low n (omega arith)
number_word (negsuc n) f =
    let h : n < 2 ^ 31 = f.sfits in
    let e : (all_words - suc n) % halves ≡ halves - 1 - n = omega arith in
    let d : halves - 1 - (halves - 1 - n) ≡ n = omega arith in
    ap signed_half e ∙ half_high (halves - 1 - n) (omega arith) ∙ ap negsuc d
