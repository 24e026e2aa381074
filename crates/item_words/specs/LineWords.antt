-- The words that the line of an item has in every listing, as bytes: 01, "Numbers at the edges", and what the programs print. Assumes nothing.
use Rattle.std.specs.Prelude.{ℕ, cond, List, [], ◌++◌, eqb, take, drop}
use Rattle.words.specs.Words.{bytes_of}
use Rattle.places.specs.Places.{within}
use Rattle.pieces.specs.Classes as classes
use Rattle.integers.specs.FoldedNumbers.{truth_kind}
use Rattle.puts.specs.Decimals.{signed_text}

-- so many bytes from a place on, none where they reach outside
unfoldable pub stretch_of : List ℕ → ℕ → ℕ → List ℕ
stretch_of s first size = cond (within s first size) (take size (drop first s)) []

-- "The word after the number is `constant` or `subtype`, or `piece` with `-` for the name of an item that claims none."
unfoldable pub claim_text : ℕ → List ℕ → List ℕ
claim_text class name = cond (eqb class classes.constant) (bytes_of " constant " ++ name) (cond (eqb class classes.subtype) (bytes_of " subtype " ++ name) (bytes_of " piece -"))

-- "truths print true or false": a number, or a truth
unfoldable pub folded_text : ℕ → ℕ → List ℕ
folded_text kind word = cond (eqb kind truth_kind) (cond (eqb word 0) (bytes_of "false") (bytes_of "true")) (signed_text word)

-- "a subtype `value LOW to HIGH`": its high end
unfoldable pub upper_of : ℕ → ℕ → ℕ → List ℕ
upper_of class kind high = cond (eqb class classes.subtype) (bytes_of " to " ++ folded_text kind high) []

-- "`value` and the number, `true` or `false`, or for a subtype `value LOW to HIGH`"
unfoldable pub value_text : ℕ → ℕ → ℕ → ℕ → List ℕ
value_text class kind low high = bytes_of " value " ++ (folded_text kind low ++ upper_of class kind high)
