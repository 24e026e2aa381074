-- How an item's record holds what the item comes to: "in state 0 kind, 1 integer or 2 truth, and two numbers; what is absent is 0". Assumes
-- nothing.
use Rattle.std.specs.Prelude.{ℕ, suc, ◌-◌, ◌^◌, Bool, true, false, List, [], ◌∷◌, ℤ, pos, negsuc}
use Rattle.places.specs.Places.{all_words}
use Rattle.integers.specs.FoldedNumbers.{integer_kind, truth_kind}
use Rattle.values.specs.declared.Value.{Value}
use Rattle.values.specs.declared.Value.TheVariants.{Number, Truth, Range, Truths, Without}

-- how many numbers of 32 bits there are, and of these those that are not negative
abbrev pub halves : ℕ
halves = 2 ^ 32

abbrev pub positives : ℕ
positives = 2 ^ 31

-- a number as a word: itself, or its size less than there are words
abbrev pub word_of : ℤ → ℕ
word_of (pos n) = n
word_of (negsuc n) = all_words - suc n

-- false and true as numbers
abbrev pub truth_word : Bool → ℕ
truth_word false = 0
truth_word true = 1

-- the state
abbrev pub state_of : Value → ℕ
state_of (Number z) = 0
state_of (Truth t) = 0
state_of (Range low high) = 0
state_of Truths = 0
state_of (Without s) = s

-- the kind, "1 integer or 2 truth"
abbrev pub value_kind : Value → ℕ
value_kind (Number z) = integer_kind
value_kind (Truth t) = truth_kind
value_kind (Range low high) = integer_kind
value_kind Truths = truth_kind
value_kind (Without s) = 0

-- the first number: the number, the truth or the low end
abbrev pub low_of : Value → ℕ
low_of (Number z) = word_of z
low_of (Truth t) = truth_word t
low_of (Range low high) = word_of low
low_of Truths = truth_word false
low_of (Without s) = 0

-- the second: the high end; a constant's second number is absent, so 0
abbrev pub high_of : Value → ℕ
high_of (Number z) = 0
high_of (Truth t) = 0
high_of (Range low high) = word_of high
high_of Truths = truth_word true
high_of (Without s) = 0

-- the last four words of an item's record
abbrev pub value_words : Value → List ℕ
value_words v = state_of v ∷ value_kind v ∷ low_of v ∷ high_of v ∷ []
