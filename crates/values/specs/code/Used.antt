-- What a name comes to by its item's record, read back from the words. Assumes nothing.
use Rattle.std.specs.Prelude.{ℕ, ◌-◌, ◌%◌, cond, not, eqb, ltb, ℤ, pos, negsuc}
use Rattle.states.specs.States as states
use Rattle.integers.specs.FoldedNumbers.{integer_kind, truth_kind}
use Rattle.pieces.specs.Classes as classes
use Rattle.values.specs.ValueWords.{halves, positives}
use Rattle.values.specs.declared.Value.{Value}
use Rattle.values.specs.declared.Value.TheVariants.{Number, Truth, Range, Truths, Without}

-- the number of 32 bits in a word's low half
abbrev pub signed_half : ℕ → ℤ
signed_half m = cond (ltb m positives) (pos m) (negsuc (halves - 1 - m))

unfoldable pub signed_number : ℕ → ℤ
signed_number n = signed_half (n % halves)

-- a constant's name used, by the kind and the first number of its record
unfoldable pub used_constant : ℕ → ℕ → Value
used_constant kind low = cond (eqb kind integer_kind) (Number (signed_number low)) (cond (eqb kind truth_kind) (Truth (not (eqb low 0))) (Without states.leans))

-- a subtype's
unfoldable pub used_subtype : ℕ → ℕ → ℕ → Value
used_subtype kind low high = cond (eqb kind integer_kind) (Range (signed_number low) (signed_number high)) (cond (eqb kind truth_kind) Truths (Without states.leans))

-- 5, "a name used .. whose item isn't in state 0"
unfoldable pub used_value : ℕ → ℕ → ℕ → ℕ → ℕ → Value
used_value class state kind low high =
    cond (eqb state 0)
    (cond (eqb class classes.constant) (used_constant kind low)
    (cond (eqb class classes.subtype) (used_subtype kind low high) (Without states.leans)))
    (Without states.leans)
