-- "a tally of items by state, eleven counts". Assumes nothing.
use Rattle.std.specs.Prelude.{ℕ, zero, suc, ◌+◌, List, [], ◌∷◌, eqb}
use Rattle.states.specs.States.{states}
use Rattle.records.specs.Records.{item_state}
use Rattle.records.specs.Counting.{one_if}
use Rattle.records.specs.declared.Tally.{Tally}

-- how many of m records from the i-th on are items in state k
unfoldable pub in_state : ℕ → List ℕ → ℕ → ℕ → ℕ
in_state k items i zero = 0
in_state k items i (suc m) = one_if (eqb (item_state items i) k) + in_state k items (suc i) m

-- the counts of m states from k on, over n records
unfoldable pub counts_from : List ℕ → ℕ → ℕ → ℕ → List ℕ
counts_from items n k zero = []
counts_from items n k (suc m) = in_state k items 0 n ∷ counts_from items n (suc k) m

-- the eleven counts, of states 0 to 10
unfoldable pub tally_of : List ℕ → ℕ → Tally
tally_of items n = record { counts = counts_from items n 0 states }
