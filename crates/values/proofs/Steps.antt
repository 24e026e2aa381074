-- What the functions' proofs cite: the definitions at the branches that the code takes, and signed numbers in words. Assumes nothing.
use mathlib.Core.Path.{◌≡◌, refl, ap}
use mathlib.Core.Bool.{true, false, true≢false}
use Prim.Native.Nat.{ℕ, zero, suc, ◌-◌, ◌≤◌, ◌<◌}
use native.Mathlib.Omega.{arith}
use lib.Dec.{T}
use lib.IntN.{ℤ, pos, negsuc, ◌-ℤ◌}
use lib.Signed.{mag, lt_z, non_neg}
use borrow.Author.Tests.{lt-ltb, le-ltb, ltb-true, ne_eqb}
use Rattle.integers.specs.FoldedNumbers.{integer_kind, truth_kind}
use Rattle.pieces.specs.Classes as classes
use Rattle.names.specs.code.Language.{name_integer, name_natural, name_positive, name_boolean, name_true, name_false}
use Rattle.states.specs.States as states
use Rattle.values.specs.declared.Value.TheVariants.{Without}
use Rattle.values.specs.Values.{language_value}
use Rattle.places.specs.Places.{all_words}
use Rattle.values.specs.ValueWords.{word_of, halves, positives}
use Rattle.values.specs.code.Used.{signed_half, used_constant, used_subtype, used_value}

-- ---- the language's names, and records that give nothing

pub language_none : (k : ℕ) → (k ≡ name_integer → ⊥) → (k ≡ name_natural → ⊥) → (k ≡ name_positive → ⊥) → (k ≡ name_boolean → ⊥) → (k ≡ name_true → ⊥) → (k ≡ name_false → ⊥) → Without states.unknown ≡ language_value k
unfolding language_value
language_none zero a b c d e f = refl
language_none (suc zero) a b c d e f = absurd (a refl)
language_none (suc (suc zero)) a b c d e f = absurd (b refl)
language_none (suc (suc (suc zero))) a b c d e f = absurd (c refl)
language_none (suc (suc (suc (suc zero)))) a b c d e f = absurd (d refl)
language_none (suc (suc (suc (suc (suc zero))))) a b c d e f = absurd (e refl)
language_none (suc (suc (suc (suc (suc (suc zero)))))) a b c d e f = absurd (f refl)
language_none (suc (suc (suc (suc (suc (suc (suc k))))))) a b c d e f = refl

pub constant_none : (kind low : ℕ) → (kind ≡ integer_kind → ⊥) → (kind ≡ truth_kind → ⊥) → Without states.leans ≡ used_constant kind low
unfolding used_constant
constant_none kind low a b = rw (ne_eqb kind integer_kind a, ne_eqb kind truth_kind b)

pub subtype_none : (kind low high : ℕ) → (kind ≡ integer_kind → ⊥) → (kind ≡ truth_kind → ⊥) → Without states.leans ≡ used_subtype kind low high
unfolding used_subtype
subtype_none kind low high a b = rw (ne_eqb kind integer_kind a, ne_eqb kind truth_kind b)

pub used_stated : (class state kind low high : ℕ) → (state ≡ 0 → ⊥) → Without states.leans ≡ used_value class state kind low high
unfolding used_value
used_stated class state kind low high a = rw (ne_eqb state 0 a)

pub used_none : (class state kind low high : ℕ) → state ≡ 0 → (class ≡ classes.constant → ⊥) → (class ≡ classes.subtype → ⊥) → Without states.leans ≡ used_value class state kind low high
unfolding used_value
used_none class state kind low high z a b = rw (z, ne_eqb class classes.constant a, ne_eqb class classes.subtype b)

-- ---- numbers in words

pub flip : (z : ℤ) → lt_z z (pos 0) ≡ true → negsuc 0 -ℤ z ≡ pos (mag z)
flip (pos n) p = absurd (omega (arith, ltb-true n 0 p))
flip (negsuc n) p = rw (le-ltb (suc n) 1 (omega arith)) (ap pos (omega arith))

pub word_below : (z : ℤ) → lt_z z (pos 0) ≡ true → (all_words - 1) - mag z ≡ word_of z
word_below (pos n) p = absurd (omega (arith, ltb-true n 0 p))
word_below (negsuc n) p = omega arith

pub above : (z : ℤ) → lt_z z (pos 0) ≡ false → T (non_neg z)
above (pos n) p = tt
above (negsuc n) p = absurd (true≢false p)

pub half_low : (m : ℕ) → m < positives → signed_half m ≡ pos m
half_low m h = rw (lt-ltb m positives h)

pub half_high : (m : ℕ) → positives ≤ m → signed_half m ≡ negsuc (halves - 1 - m)
half_high m h = rw (le-ltb m positives h)
