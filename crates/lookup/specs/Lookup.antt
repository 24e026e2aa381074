-- The search for a name over the records, in the code's terms: proofs/Promises.antt has that it finds what `Finds` says. Assumes nothing.
use Rattle.std.specs.Prelude.{ℕ, zero, suc, ◌/◌, Bool, true, false, ◌&&◌, List, length, Option, Some, None}
use Rattle.same_names.specs.Spelling.{by_kind}
use Rattle.places.specs.Places.{cell_at}
use Rattle.same_names.specs.Alike.{spelled_as}
use Rattle.pieces.specs.Records.{record_words}
use Rattle.records.specs.Records.{word_at, is_claim}
use Rattle.pieces.specs.Columns as column

-- element e is that name: an identifier, case aside, or an extended one
unfoldable pub is_named : List ℕ → List ℕ → ℕ → List ℕ → Bool
is_named text elements e name = by_kind (cell_at elements e 0) (spelled_as true text elements e name) (spelled_as false text elements e name)

-- record i claims the name
unfoldable pub claims_name : List ℕ → List ℕ → List ℕ → List ℕ → ℕ → Bool
claims_name text elements name items i = is_claim (word_at items i column.class) && is_named text elements (word_at items i column.name) name

-- the first of m records from the i-th on that passes
unfoldable pub found_from : (ℕ → Bool) → ℕ → ℕ → Option ℕ
found_from p i zero = None
found_from p i (suc m) = elim (p i) [ true ↦ Some i | false ↦ found_from p (suc i) m ]

unfoldable pub found_of : List ℕ → List ℕ → List ℕ → List ℕ → Option ℕ
found_of text elements name items = found_from (claims_name text elements name items) 0 (length items / record_words)
